-- The marks while the entries are gone through from the last to the first.
use Rattle.std.proofs.Common.{◌≡◌, ℕ, zero, suc, ◌+◌, ◌-◌, ◌<◌, ◌≤◌, Bool, true, false, cond, ◌&&◌, eqb, leb, ◌⊎◌, ◌↔◌, List, length, get_or, set, sym, refl, ap, ◌∙◌, subst, inl, inr, ⊎_elim, arith, length-set, get_or-set_other, get_or-set_same}
use Rattle.std.proofs.lemmas.Bool.{eq-eqb, eqb-true, le-leb, and_from, and_parts, leb-true, cases_eq, cases_lt, both_ways}
use Rattle.store.specs.declared.entry.Entry.{Entry}
use Rattle.lines.specs.declared.line.Line.{Line}
use Rattle.trace.specs.Marks.{entry_of, marked}
use Rattle.trace.specs.Lines.{as_line}
use Rattle.trace.specs.Laws.{Antecedent}

-- a later entry that is marked has entry k as an antecedent
pub record Named (es : List Entry) (m : ℕ → Bool) (k : ℕ) : Type 0 where
  pub user : ℕ
  pub later : k < user
  pub held : user ≤ length es
  pub written : m user ≡ true
  pub names : Antecedent (entry_of es user) k

abbrev pub Wanted : List Entry → ℕ → ℕ → (ℕ → Bool) → ℕ → Type 0
Wanted es r c m k = ((k ≡ r) ⊎ (k ≡ c)) ⊎ Named es m k

-- an entry is marked just if the empty clause was derived from it, or a later marked entry was
unfoldable pub Marked : List Entry → ℕ → ℕ → (ℕ → Bool) → Type 0
Marked es r c m = (k : ℕ) → 1 ≤ k → k ≤ length es → (m k ≡ true) ↔ Wanted es r c m k

-- the first `size` bytes are marks, and the others are as they were
pub record Marks (size : ℕ) (old new : List ℕ) : Type 0 where
  pub long : length new ≡ length old
  pub bits : (i : ℕ) → i < size → get_or new i 0 ≤ 1
  pub rest : (i : ℕ) → size ≤ i → get_or new i 0 ≡ get_or old i 0

-- ---- one mark more

-- entry k is marked, if it is one of the first `upto`, and nothing else changes
pub record Noted (upto k : ℕ) (old new : List ℕ) : Type 0 where
  pub long : length new ≡ length old
  pub hit : (i : ℕ) → suc i ≡ k → i < upto → get_or new i 0 ≡ 1
  pub miss : (i : ℕ) → (suc i ≡ k → i < upto → ⊥) → get_or new i 0 ≡ get_or old i 0

pub noted : (upto k : ℕ) (old new : List ℕ) → upto ≤ length old → new ≡ cond (leb 1 k && leb k upto) (set old (k - 1) 1) old → Noted upto k old new
noted upto k old new h e = go (leb 1 k && leb k upto) refl e
  where
    go : (b : Bool) → (leb 1 k && leb k upto) ≡ b → new ≡ cond b (set old (k - 1) 1) old → Noted upto k old new
    go true t q =
        let p = and_parts (leb 1 k) (leb k upto) t in
        let lo : 1 ≤ k = leb-true 1 k p.0 in
        let hi : k ≤ upto = leb-true k upto p.1 in
        record {
          long = ap length q ∙ length-set old (k - 1) 1;
          hit = λ i s l. ap (λ (x : List ℕ). get_or x i 0) q ∙ (let a : k - 1 ≡ i = omega arith in rw a (get_or-set_same old i 1 0 (omega arith)));
          miss = λ i n. ap (λ (x : List ℕ). get_or x i 0) q ∙ get_or-set_other old (k - 1) i 1 0 (λ (a : i ≡ k - 1). n (omega arith) (omega arith));
        }
    go false t q =
        record {
          long = ap length q;
          hit = λ i s l. absurd (let z = and_from (leb 1 k) (leb k upto) (le-leb 1 k (omega arith)) (le-leb k upto (omega arith)) in let w : true ≡ false = sym z ∙ t in let y : ◌≡◌ {A = ℕ} 0 1 = cc in omega arith);
          miss = λ i n. ap (λ (x : List ℕ). get_or x i 0) q;
        }

-- ---- what marks say after it

pub record Grew (upto k : ℕ) (m n : ℕ → Bool) : Type 0 where
  pub keeps : (j : ℕ) → m j ≡ true → n j ≡ true
  pub hits : 1 ≤ k → k ≤ upto → n k ≡ true
  pub only : (j : ℕ) → n j ≡ true → (m j ≡ true) ⊎ ((j ≡ k) × (1 ≤ j) × (j ≤ upto))

falsely : {A : Type 0} → false ≡ true → A
falsely e = absurd (let z : ◌≡◌ {A = ℕ} 0 1 = cc in omega arith)

module _ (upto k : ℕ) (old new : List ℕ) (w : Noted upto k old new) where
  inside : (i : ℕ) → ((suc i ≡ k) × (i < upto)) ⊎ (suc i ≡ k → i < upto → ⊥)
  inside i = ⊎_elim (λ e. ⊎_elim (λ l. inl (e, l)) (λ l. inr (λ _ y. omega arith)) (cases_lt i upto)) (λ n. inr (λ e _. n e)) (cases_eq (suc i) k)

  pub grew : Grew upto k (marked old) (marked new)
  unfolding marked
  grew = record { keeps = keeps; hits = hits k refl; only = only }
    where
      keeps : (j : ℕ) → marked old j ≡ true → marked new j ≡ true
      keeps zero h = h
      keeps (suc i) h = eq-eqb (get_or new i 0) 1 (⊎_elim (λ p. w.hit i p.0 p.1) (λ n. w.miss i n ∙ eqb-true (get_or old i 0) 1 h) (inside i))

      hits : (j : ℕ) → j ≡ k → 1 ≤ j → j ≤ upto → marked new j ≡ true
      hits zero e l h = absurd (omega arith)
      hits (suc i) e l h = eq-eqb (get_or new i 0) 1 (w.hit i e (omega arith))

      only : (j : ℕ) → marked new j ≡ true → (marked old j ≡ true) ⊎ ((j ≡ k) × (1 ≤ j) × (j ≤ upto))
      only zero h = falsely h
      only (suc i) h = ⊎_elim (λ p. inr (p.0, omega arith, omega (arith, p.1))) (λ n. inl (eq-eqb (get_or old i 0) 1 (sym (w.miss i n) ∙ eqb-true (get_or new i 0) 1 h))) (inside i)

abbrev Names : Line → ℕ → Type 0
Names e k = (e.first ≡ k) ⊎ (e.second ≡ k)

-- ---- the law so far: entries above d have marked what they name

pub record Past (es : List Entry) (m : ℕ → Bool) (d k : ℕ) : Type 0 where
  pub named : Named es m k
  pub above : d < named.user

abbrev pub Law : List Entry → ℕ → ℕ → (ℕ → Bool) → ℕ → Type 0
Law es r c m d = (k : ℕ) → 1 ≤ k → k ≤ length es → (m k ≡ true) ↔ (((k ≡ r) ⊎ (k ≡ c)) ⊎ Past es m d k)

-- at the start r and c alone are marked
pub law_first : (es : List Entry) (r c : ℕ) (m₀ m₁ m₂ : ℕ → Bool) → ((j : ℕ) → 1 ≤ j → j ≤ length es → m₀ j ≡ true → ⊥)
    → Grew (length es) r m₀ m₁ → Grew (length es) c m₁ m₂ → Law es r c m₂ (length es)
law_first es r c m₀ m₁ m₂ none g h k lo hi = (
  λ t. ⊎_elim (λ t₁. ⊎_elim (λ t₀. absurd (none k lo hi t₀)) (λ p. inl (inl p.0)) (g.only k t₁)) (λ p. inl (inr p.0)) (h.only k t),
  ⊎_elim (⊎_elim (λ e. h.keeps k (rw e (g.hits (omega arith) (omega arith)))) (λ e. rw e (h.hits (omega arith) (omega arith))))
      (λ p. absurd (let a = p.above in let b = p.named.held in omega arith)),
)

-- entry d + 1 is not marked
pub law_skip : (es : List Entry) (r c : ℕ) (m : ℕ → Bool) (d : ℕ) → (m (d + 1) ≡ true → ⊥) → Law es r c m (d + 1) → Law es r c m d
law_skip es r c m d off law k lo hi = (
  λ t. ⊎_elim inl (λ p. inr (record { named = p.named; above = let a = p.above in omega arith })) ((law k lo hi).0 t),
  ⊎_elim (λ e. (law k lo hi).1 (inl e)) (λ p. (law k lo hi).1 (inr (record { named = p.named; above = lift p }))),
)
  where
    lift : (p : Past es m d k) → d + 1 < p.named.user
    lift p = let a = p.above in ⊎_elim (λ e. absurd (off (subst (λ (j : ℕ). m j ≡ true) (sym e) p.named.written))) (λ n. omega (arith, lt n a)) (cases_eq (d + 1) p.named.user)
      where
        lt : (d + 1 ≡ p.named.user → ⊥) → d < p.named.user → d + 1 < p.named.user
        lt n a = ⊎_elim (λ (x : d + 1 < p.named.user). x) (λ x. absurd (n (omega arith))) (cases_lt (d + 1) p.named.user)

-- entry d + 1 is marked, and marks what it names
pub law_mark : (es : List Entry) (r c : ℕ) (m m₁ m₂ : ℕ → Bool) (d : ℕ) (e : Line) → e ≡ as_line (entry_of es (d + 1)) → d + 1 ≤ length es → m (d + 1) ≡ true
    → Grew d e.first m m₁ → Grew d e.second m₁ m₂ → Law es r c m (d + 1) → Law es r c m₂ d
law_mark es r c m m₁ m₂ d e is in-es on g h law k lo hi = (there, back)
  where
    up : (j : ℕ) → m j ≡ true → m₂ j ≡ true
    up j t = h.keeps j (g.keeps j t)

    down : (j : ℕ) → d < j → m₂ j ≡ true → m j ≡ true
    down j l t = ⊎_elim (λ t₁. ⊎_elim (λ (x : m j ≡ true). x) (λ p. absurd (let a = p.2 in omega arith)) (g.only j t₁)) (λ p. absurd (let a = p.2 in omega arith)) (h.only j t)

    new : Names e k → k ≤ d → Past es m₂ d k
    new n l = record { named = record { user = d + 1; later = omega arith; held = in-es; written = up (d + 1) on; names = subst (λ (x : Line). Names x k) is n }; above = omega arith }

    there : m₂ k ≡ true → ((k ≡ r) ⊎ (k ≡ c)) ⊎ Past es m₂ d k
    there t =
        ⊎_elim
        (λ t₁. ⊎_elim
        (λ t₀. ⊎_elim inl (λ p. let x = p.named in inr (record { named = record { user = x.user; later = x.later; held = x.held; written = up x.user x.written; names = x.names }; above = let a = p.above in omega arith })) ((law k lo hi).0 t₀))
        (λ p. inr (new (inl (sym p.0)) p.2)) (g.only k t₁))
        (λ p. inr (new (inr (sym p.0)) p.2)) (h.only k t)

    back : ((k ≡ r) ⊎ (k ≡ c)) ⊎ Past es m₂ d k → m₂ k ≡ true
    back =
        ⊎_elim (λ q. up k ((law k lo hi).1 (inl q)))
        (λ p. ⊎_elim (λ q. here p q) (λ q. up k ((law k lo hi).1 (inr (record { named = old p; above = beyond p q })))) (cases_eq (d + 1) p.named.user))
      where
        old : Past es m₂ d k → Named es m k
        old p = let x = p.named in record { user = x.user; later = x.later; held = x.held; written = down x.user p.above x.written; names = x.names }

        beyond : (p : Past es m₂ d k) → (d + 1 ≡ p.named.user → ⊥) → d + 1 < p.named.user
        beyond p n = let a = p.above in ⊎_elim (λ (x : d + 1 < p.named.user). x) (λ x. absurd (n (omega arith))) (cases_lt (d + 1) p.named.user)

        here : (p : Past es m₂ d k) → d + 1 ≡ p.named.user → m₂ k ≡ true
        here p q =
            let l : k < p.named.user = p.named.later in
            let n : Names e k = subst (λ (x : Line). Names x k) (sym is) (subst (λ (j : ℕ). Antecedent (entry_of es j) k) (sym q) p.named.names) in
            ⊎_elim (λ (f : e.first ≡ k). h.keeps k (subst (λ (j : ℕ). m₁ j ≡ true) f (g.hits (omega arith) (omega arith))))
            (λ (f : e.second ≡ k). subst (λ (j : ℕ). m₂ j ≡ true) f (h.hits (omega arith) (omega arith))) n

-- at the end it is the whole law
pub law_last : (es : List Entry) (r c : ℕ) (m : ℕ → Bool) (d : ℕ) → d ≡ 0 → Law es r c m d → Marked es r c m
unfolding Marked
law_last es r c m d z law k lo hi = (
  λ t. ⊎_elim inl (λ p. inr p.named) ((law k lo hi).0 t),
  λ q. (law k lo hi).1 (⊎_elim inl (λ n. inr (record { named = n; above = let a = n.later in omega arith })) q),
)

-- ---- bytes

pub marks_noted : (size upto k : ℕ) (old new : List ℕ) → upto ≤ size → Noted upto k old new → ((i : ℕ) → i < size → get_or old i 0 ≤ 1) → Marks size old new
marks_noted size upto k old new l w b =
    record {
      long = w.long;
      bits = λ i h. ⊎_elim (λ p. let e = w.hit i p.0 p.1 in omega arith) (λ n. let e = w.miss i n in let o = b i h in omega arith) (inside upto k old new w i);
      rest = λ i h. w.miss i (λ _ y. omega arith);
    }

pub marks_trans : (size : ℕ) (a b c : List ℕ) → Marks size a b → Marks size b c → Marks size a c
marks_trans size a b c p q = record { long = q.long ∙ p.long; bits = q.bits; rest = λ i h. q.rest i h ∙ p.rest i h }

pub marks_same : (size : ℕ) (a : List ℕ) → ((i : ℕ) → i < size → get_or a i 0 ≤ 1) → Marks size a a
marks_same size a b = record { long = refl; bits = b; rest = λ i h. refl }

pub marks_clear : (size : ℕ) (a b : List ℕ) → length b ≡ length a → ((i : ℕ) → i < size → get_or b i 0 ≡ 0) → ((i : ℕ) → size ≤ i → get_or b i 0 ≡ get_or a i 0) → Marks size a b
marks_clear size a b l z r = record { long = l; bits = λ i h. let e = z i h in omega arith; rest = r }

pub none_clear : (b : List ℕ) (size : ℕ) → ((i : ℕ) → i < size → get_or b i 0 ≡ 0) → (j : ℕ) → 1 ≤ j → j ≤ size → marked b j ≡ true → ⊥
unfolding marked
none_clear b size z zero lo hi t = omega arith
none_clear b size z (suc i) lo hi t = let e = z i (omega arith) in let f = eqb-true (get_or b i 0) 1 t in omega arith

pub mark_on : (b : List ℕ) (i : ℕ) → get_or b i 0 ≡ 1 → marked b (i + 1) ≡ true
unfolding marked
mark_on b i e = let s : i + 1 ≡ suc i = omega arith in rw s (eq-eqb (get_or b i 0) 1 e)

pub mark_off : (b : List ℕ) (i : ℕ) → (get_or b i 0 ≡ 1 → ⊥) → marked b (i + 1) ≡ true → ⊥
unfolding marked
mark_off b i n t = let s : i + 1 ≡ suc i = omega arith in n (eqb-true (get_or b i 0) 1 (rw s at t))

-- ---- the steps of marking

pub is_on : (x : ℕ) (b : Bool) → b ≡ eqb x 1 → b ≡ true → x ≡ 1
is_on x b e t = eqb-true x 1 (sym e ∙ t)

pub is_off : (x : ℕ) (b : Bool) → b ≡ eqb x 1 → b ≡ false → x ≡ 1 → ⊥
is_off x b e f q = both_ways _ (sym e ∙ f) (eq-eqb x 1 q)

module _ (es : List Entry) (r c : ℕ) where
  pub started : (size r' c' : ℕ) (a b b₁ b₂ : List ℕ) → r' ≡ r → c' ≡ c → size ≡ length es → size ≤ length a → length b ≡ length a
      → ((i : ℕ) → i < size → get_or b i 0 ≡ 0) → ((i : ℕ) → size ≤ i → get_or b i 0 ≡ get_or a i 0)
      → b₁ ≡ cond (leb 1 r' && leb r' size) (set b (r' - 1) 1) b → b₂ ≡ cond (leb 1 c' && leb c' size) (set b₁ (c' - 1) 1) b₁
      → Marks (length es) a b₂ × Law es r c (marked b₂) size
  started size r' c' a b b₁ b₂ er ec s h l z rest e₁' e₂' =
      let e₁ = e₁' ∙ ap (λ (n : ℕ). cond (leb 1 n && leb n size) (set b (n - 1) 1) b) er in
      let e₂ = e₂' ∙ ap (λ (n : ℕ). cond (leb 1 n && leb n size) (set b₁ (n - 1) 1) b₁) ec in
      let w₁ = noted size r b b₁ (omega arith) e₁ in
      let l₁ = w₁.long in
      let w₂ = noted size c b₁ b₂ (omega arith) e₂ in
      let p₀ = marks_clear size a b l z rest in
      let p₁ = marks_noted size size r b b₁ (omega arith) w₁ p₀.bits in
      let p₂ = marks_noted size size c b₁ b₂ (omega arith) w₂ p₁.bits in
      let g₁ = subst (λ (n : ℕ). Grew n r (marked b) (marked b₁)) s (grew size r b b₁ w₁) in
      let g₂ = subst (λ (n : ℕ). Grew n c (marked b₁) (marked b₂)) s (grew size c b₁ b₂ w₂) in
      let f = law_first es r c (marked b) (marked b₁) (marked b₂) (λ j lo hi. none_clear b size z j lo (omega arith)) g₁ g₂ in (
        subst (λ (n : ℕ). Marks n a b₂) s (marks_trans size a b b₂ p₀ (marks_trans size b b₁ b₂ p₁ p₂)),
        subst (λ (d : ℕ). Law es r c (marked b₂) d) (sym s) f,
      )

  pub went_on : (a b b₁ b₂ : List ℕ) (i : ℕ) (e : Line) → 0 < i → i ≤ length es → length es ≤ length b → e ≡ as_line (entry_of es (i - 1 + 1)) → get_or b (i - 1) 0 ≡ 1
      → b₁ ≡ cond (leb 1 e.first && leb e.first (i - 1)) (set b (e.first - 1) 1) b
      → b₂ ≡ cond (leb 1 e.second && leb e.second (i - 1)) (set b₁ (e.second - 1) 1) b₁
      → Marks (length es) a b × Law es r c (marked b) i → Marks (length es) a b₂ × Law es r c (marked b₂) (i - 1)
  went_on a b b₁ b₂ i e z h l is on e₁ e₂ inv =
      let d : ℕ = i - 1 in
      let s : i ≡ d + 1 = omega arith in
      let w₁ = noted d e.first b b₁ (omega arith) e₁ in
      let l₁ = w₁.long in
      let w₂ = noted d e.second b₁ b₂ (omega arith) e₂ in
      let p₁ = marks_noted (length es) d e.first b b₁ (omega arith) w₁ inv.0.bits in
      let p₂ = marks_noted (length es) d e.second b₁ b₂ (omega arith) w₂ p₁.bits in (
        marks_trans (length es) a b b₂ inv.0 (marks_trans (length es) b b₁ b₂ p₁ p₂),
        law_mark es r c (marked b) (marked b₁) (marked b₂) d e is (omega arith) (mark_on b d on) (grew d e.first b b₁ w₁) (grew d e.second b₁ b₂ w₂)
            (subst (λ (n : ℕ). Law es r c (marked b) n) s inv.1),
      )

  pub passed : (a b : List ℕ) (i : ℕ) → 0 < i → (get_or b (i - 1) 0 ≡ 1 → ⊥) → Marks (length es) a b × Law es r c (marked b) i → Marks (length es) a b × Law es r c (marked b) (i - 1)
  passed a b i z off inv =
      let d : ℕ = i - 1 in
      let s : i ≡ d + 1 = omega arith in
      (inv.0, law_skip es r c (marked b) d (mark_off b d off) (subst (λ (n : ℕ). Law es r c (marked b) n) s inv.1))

-- what the test of a mark says
pub mark_test : (ms : List ℕ) (i : ℕ) (b t : Bool) → b ≡ eqb (get_or ms i 0) 1 → b ≡ t → marked ms (i + 1) ≡ t
unfolding marked
mark_test ms i b t e f = let s : i + 1 ≡ suc i = omega arith in rw s (sym e ∙ f)
