-- The computed marks keep the law of marking, and no others do.
use Rattle.std.proofs.Common.{◌≡◌, ℕ, zero, suc, ◌+◌, ◌-◌, ◌<◌, ◌≤◌, Bool, true, false, cond, ◌&&◌, ◌||◌, eqb, ◌⊎◌, List, [], ◌∷◌, ◌++◌, length, get_or, drop, sym, refl, ap, ◌∙◌, subst, inl, inr, ⊎_elim, arith, length-append, length-drop}
use Rattle.std.proofs.lemmas.List.{same_lists, get_or_default, get_or_append_left, get_or-append_right, get_or-drop}
use Rattle.std.proofs.lemmas.Bool.{eq-eqb, eqb-true, cases_lt, or_cases, or_left, or_right, and_parts, and_from, cond-true}
use Rattle.store.specs.declared.entry.Entry.{Entry}
use Rattle.store.specs.Held.{blank}
use Rattle.trace.specs.Marks.{entry_of, marked, is_used, mark_before, marks_from, marks_of}
use Rattle.trace.specs.Laws.{Antecedent}
use Rattle.trace.specs.Calls.{over}
use Rattle.trace.proofs.Marking.{Marked, Marks}

-- ---- one law for at most one set of marks

module _ (es : List Entry) (r c : ℕ) where
  half : (m n : ℕ → Bool) → Marked es r c m → Marked es r c n → (k : ℕ) → 1 ≤ k → k ≤ length es → ((u : ℕ) → k < u → u ≤ length es → m u ≡ true → n u ≡ true) → m k ≡ true → n k ≡ true
  unfolding Marked
  half m n M N k lo hi f t =
      (N k lo hi).1 (⊎_elim inl (λ p. inr (record { user = p.user; later = p.later; held = p.held; written = f p.user p.later p.held p.written; names = p.names })) ((M k lo hi).0 t))

  same_bool : (a b : Bool) → (a ≡ true → b ≡ true) → (b ≡ true → a ≡ true) → a ≡ b
  same_bool true b f g = sym (f refl)
  same_bool false true f g = g refl
  same_bool false false f g = refl

  pub unique : (m n : ℕ → Bool) → Marked es r c m → Marked es r c n → (d k : ℕ) → 1 ≤ k → k ≤ length es → length es < k + d → m k ≡ n k
  unique m n M N zero k lo hi h = absurd (omega arith)
  unique m n M N (suc d) k lo hi h =
      let ih = unique m n M N d in
      same_bool (m k) (n k)
      (half m n M N k lo hi (λ u l v t. sym (ih u (omega arith) v (omega arith)) ∙ t))
      (half n m N M k lo hi (λ u l v t. ih u (omega arith) v (omega arith) ∙ t))

-- ---- the computed marks

pub marks_long : (r c k : ℕ) (es : List Entry) → length (marks_from r c k es) ≡ length es
unfolding marks_from
marks_long r c k [] = refl
marks_long r c k (e ∷ es) = ap suc (marks_long r c (k + 1) es)

is_bit : (b : Bool) → cond b 1 0 ≤ 1
is_bit true = omega arith
is_bit false = omega arith

pub marks_bits : (r c k : ℕ) (es : List Entry) (i : ℕ) → get_or (marks_from r c k es) i 0 ≤ 1
unfolding marks_from
marks_bits r c k [] i = omega arith
marks_bits r c k (e ∷ es) zero = is_bit ((eqb k r || eqb k c) || is_used es (marks_from r c (k + 1) es) k)
marks_bits r c k (e ∷ es) (suc i) = marks_bits r c (k + 1) es i

-- a later one of the entries names k
record Later (es : List Entry) (bs : List ℕ) (k from : ℕ) : Type 0 where
  at : ℕ
  past : from ≤ at
  inside : at < length es
  on : get_or bs at 0 ≡ 1
  names : Antecedent (get_or es at blank) k

names_in : (e : Entry) (k : ℕ) → (eqb e.first k || eqb e.second k) ≡ true → Antecedent e k
names_in e k t = ⊎_elim (λ a. inl (eqb-true e.first k a)) (λ a. inr (eqb-true e.second k a)) (or_cases (eqb e.first k) (eqb e.second k) t)

in_names : (e : Entry) (k : ℕ) → Antecedent e k → (eqb e.first k || eqb e.second k) ≡ true
in_names e k = ⊎_elim (λ a. or_left (eqb e.first k) (eqb e.second k) (eq-eqb e.first k a)) (λ a. or_right (eqb e.first k) (eqb e.second k) (eq-eqb e.second k a))

false_not : {A : Type 0} → false ≡ true → A
false_not e = absurd (let z : ◌≡◌ {A = ℕ} 0 1 = cc in omega arith)

is_used_by : (es : List Entry) (bs : List ℕ) (k : ℕ) → is_used es bs k ≡ true → Later es bs k 0
unfolding is_used
is_used_by [] bs k t = false_not t
is_used_by (e ∷ es) [] k t = false_not t
is_used_by (e ∷ es) (b ∷ bs) k t =
    ⊎_elim (λ a. let p = and_parts (eqb b 1) (eqb e.first k || eqb e.second k) a in record { at = 0; past = omega arith; inside = omega arith; on = eqb-true b 1 p.0; names = names_in e k p.1 })
    (λ a. let p = is_used_by es bs k a in let l = p.inside in record { at = suc p.at; past = omega arith; inside = omega arith; on = p.on; names = p.names })
    (or_cases (eqb b 1 && (eqb e.first k || eqb e.second k)) (is_used es bs k) t)

used_in : (es : List Entry) (bs : List ℕ) (k i : ℕ) → i < length es → get_or bs i 0 ≡ 1 → Antecedent (get_or es i blank) k → is_used es bs k ≡ true
unfolding is_used
used_in [] bs k i l o n = absurd (omega arith)
used_in (e ∷ es) [] k i l o n = absurd (omega arith)
used_in (e ∷ es) (b ∷ bs) k zero l o n = or_left (eqb b 1 && (eqb e.first k || eqb e.second k)) (is_used es bs k) (and_from (eqb b 1) (eqb e.first k || eqb e.second k) (eq-eqb b 1 o) (in_names e k n))
used_in (e ∷ es) (b ∷ bs) k (suc i) l o n = or_right (eqb b 1 && (eqb e.first k || eqb e.second k)) (is_used es bs k) (used_in es bs k i (omega arith) o n)

bit_on : (b : Bool) → ◌≡◌ {A = ℕ} (cond b 1 0) 1 → b ≡ true
bit_on true e = refl
bit_on false e = absurd (omega arith)

module _ (r c : ℕ) where
  -- entry number k + i is place i of these
  there : (k : ℕ) (es : List Entry) (i j : ℕ) → i < length es → j ≡ k + i → get_or (marks_from r c k es) i 0 ≡ 1 → ((j ≡ r) ⊎ (j ≡ c)) ⊎ Later es (marks_from r c k es) j (suc i)
  unfolding marks_from
  there k [] i j l e o = absurd (omega arith)
  there k (x ∷ es) zero j l e o =
      let q : j ≡ k = omega arith in
      let bs = marks_from r c (k + 1) es in
      let t = bit_on ((eqb k r || eqb k c) || is_used es bs k) o in
      ⊎_elim (λ a. inl (⊎_elim (λ u. inl (q ∙ eqb-true k r u)) (λ u. inr (q ∙ eqb-true k c u)) (or_cases (eqb k r) (eqb k c) a)))
      (λ a. let p = is_used_by es bs k a in let y = p.inside in
      inr (record { at = suc p.at; past = omega arith; inside = omega arith; on = p.on; names = subst (λ (z : ℕ). Antecedent (get_or es p.at blank) z) (sym q) p.names }))
      (or_cases (eqb k r || eqb k c) (is_used es bs k) t)
  there k (x ∷ es) (suc i) j l e o =
      ⊎_elim inl (λ p. let a = p.past in let b = p.inside in inr (record { at = suc p.at; past = omega arith; inside = omega arith; on = p.on; names = p.names }))
      (there (k + 1) es i j (omega arith) (omega arith) o)

  here : (k : ℕ) (es : List Entry) (i j : ℕ) → i < length es → j ≡ k + i → ((j ≡ r) ⊎ (j ≡ c)) ⊎ Later es (marks_from r c k es) j (suc i) → get_or (marks_from r c k es) i 0 ≡ 1
  unfolding marks_from
  here k [] i j l e w = absurd (omega arith)
  here k (x ∷ es) zero j l e w =
      let q : j ≡ k = omega arith in
      let bs = marks_from r c (k + 1) es in
      cond-true ((eqb k r || eqb k c) || is_used es bs k) 1 0
      (⊎_elim (λ u. or_left (eqb k r || eqb k c) (is_used es bs k)
      (⊎_elim (λ a. or_left (eqb k r) (eqb k c) (eq-eqb k r (sym q ∙ a))) (λ a. or_right (eqb k r) (eqb k c) (eq-eqb k c (sym q ∙ a))) u))
      (λ p. or_right (eqb k r || eqb k c) (is_used es bs k) (low (x ∷ es) refl p q)) w)
    where
      low : (ys : List Entry) → ys ≡ x ∷ es → Later (x ∷ es) (mark_before r c k es (marks_from r c (k + 1) es)) j 1 → j ≡ k → is_used es (marks_from r c (k + 1) es) k ≡ true
      low ys _ p q = go p.at p.past p.inside p.on p.names
        where
          go : (a : ℕ) → 1 ≤ a → a < suc (length es) → get_or (mark_before r c k es (marks_from r c (k + 1) es)) a 0 ≡ 1 → Antecedent (get_or (x ∷ es) a blank) j → is_used es (marks_from r c (k + 1) es) k ≡ true
          go zero a1 a2 o n = absurd (omega arith)
          go (suc a) a1 a2 o n = used_in es (marks_from r c (k + 1) es) k a (omega arith) o (subst (λ (z : ℕ). Antecedent (get_or es a blank) z) q n)
  here k (x ∷ es) (suc i) j l e w =
      here (k + 1) es i j (omega arith) (omega arith) (⊎_elim inl (λ p. inr (lower p)) w)
    where
      lower : Later (x ∷ es) (mark_before r c k es (marks_from r c (k + 1) es)) j (suc (suc i)) → Later es (marks_from r c (k + 1) es) j (suc i)
      lower p = go p.at p.past p.inside p.on p.names
        where
          go : (a : ℕ) → suc (suc i) ≤ a → a < suc (length es) → get_or (mark_before r c k es (marks_from r c (k + 1) es)) a 0 ≡ 1 → Antecedent (get_or (x ∷ es) a blank) j → Later es (marks_from r c (k + 1) es) j (suc i)
          go zero a1 a2 o n = absurd (omega arith)
          go (suc a) a1 a2 o n = record { at = a; past = omega arith; inside = omega arith; on = o; names = n }

  pub marks_law : (es : List Entry) → Marked es r c (marked (marks_of es r c))
  unfolding Marked marked marks_of
  marks_law es zero lo hi = absurd (omega arith)
  marks_law es (suc i) lo hi =
      let bs = marks_from r c 1 es in (
        λ t. ⊎_elim inl (λ p. let a = p.past in let b = p.inside in inr (record { user = suc p.at; later = omega arith; held = omega arith; written = eq-eqb (get_or bs p.at 0) 1 p.on; names = p.names }))
            (there 1 es i (suc i) (omega arith) (omega arith) (eqb-true (get_or bs i 0) 1 t)),
        λ w. eq-eqb (get_or bs i 0) 1 (here 1 es i (suc i) (omega arith) (omega arith) (⊎_elim inl (λ p. inr (go p.user p.later p.held p.written p.names)) w)),
      )
    where
      go : (u : ℕ) → suc i < u → u ≤ length es → marked (marks_from r c 1 es) u ≡ true → Antecedent (entry_of es u) (suc i) → Later es (marks_from r c 1 es) (suc i) (suc i)
      go zero l h o n = absurd (omega arith)
      go (suc a) l h o n = record { at = a; past = omega arith; inside = omega arith; on = eqb-true (get_or (marks_from r c 1 es) a 0) 1 o; names = n }

-- ---- so the marks are the computed ones

one_bit : (a b : ℕ) → a ≤ 1 → b ≤ 1 → eqb a 1 ≡ eqb b 1 → a ≡ b
one_bit zero zero p q e = refl
one_bit (suc zero) (suc zero) p q e = refl
one_bit zero (suc zero) p q e = false_not e
one_bit (suc zero) zero p q e = false_not (sym e)
one_bit (suc (suc a)) b p q e = absurd (omega arith)
one_bit zero (suc (suc b)) p q e = absurd (omega arith)
one_bit (suc zero) (suc (suc b)) p q e = absurd (omega arith)

-- at each entry the marks agree
pub marks_agree : (es : List Entry) (r c : ℕ) (m : ℕ → Bool) → Marked es r c m → (k : ℕ) → 1 ≤ k → k ≤ length es → m k ≡ marked (marks_of es r c) k
marks_agree es r c m M k lo hi = unique es r c m (marked (marks_of es r c)) M (marks_law r c es) (length es) k lo hi (omega arith)

at_entry : (es : List Entry) (r c : ℕ) (new : List ℕ) (i : ℕ) → i < length es → get_or new i 0 ≤ 1 → Marked es r c (marked new) → get_or new i 0 ≡ get_or (marks_of es r c) i 0
unfolding marked marks_of
at_entry es r c new i l b M = one_bit (get_or new i 0) (get_or (marks_from r c 1 es) i 0) b (marks_bits r c 1 es i) (marks_agree es r c (marked new) M (suc i) (omega arith) (omega arith))

pub length_marks : (es : List Entry) (r c : ℕ) → length (marks_of es r c) ≡ length es
unfolding marks_of
length_marks es r c = marks_long r c 1 es

pub marks_are : (es : List Entry) (r c : ℕ) (old new : List ℕ) → length es ≤ length old → Marks (length es) old new → Marked es r c (marked new) → new ≡ over (marks_of es r c) old
marks_are es r c old new h k M =
    let bs = marks_of es r c in
    let n : length bs ≡ length es = length_marks es r c in
    let l : length new ≡ length (bs ++ drop (length bs) old) = omega (arith, k.long, length-append bs (drop (length bs) old), length-drop (length bs) old) in
    same_lists new (bs ++ drop (length bs) old) l (λ i d y. get_or_default new i d 0 y ∙ at i ∙ get_or_default (bs ++ drop (length bs) old) i 0 d (omega arith))
  where
    at : (i : ℕ) → get_or new i 0 ≡ get_or (over (marks_of es r c) old) i 0
    at i =
        let bs = marks_of es r c in
        let n : length bs ≡ length es = length_marks es r c in
        ⊎_elim
        (λ l. at_entry es r c new i (omega arith) (k.bits i (omega arith)) M ∙ sym (get_or_append_left bs (drop (length bs) old) 0 i l))
        (λ l. k.rest i (omega arith) ∙ ap (λ (j : ℕ). get_or old j 0) (omega arith) ∙ sym (get_or-drop (length bs) old (i - length bs) 0) ∙ sym (get_or-append_right bs (drop (length bs) old) (length bs) i 0 refl l))
        (cases_lt i (length bs))

-- marks over others are the same at the entries
pub marked_over : (ms old : List ℕ) (k : ℕ) → k ≤ length ms → marked (over ms old) k ≡ marked ms k
unfolding marked
marked_over ms old zero h = refl
marked_over ms old (suc i) h = ap (λ (b : ℕ). eqb b 1) (get_or_append_left ms (drop (length ms) old) 0 i (omega arith))
