-- Literals read one after the other make the set of them.
use Rattle.std.proofs.Common.{◌≡◌, ℕ, zero, suc, ◌+◌, ◌^◌, ◌<◌, ◌≤◌, min, Bool, true, false, ◌&&◌, ◌||◌, T, eqb, ltb, List, [], ◌∷◌, length, ℤ, pos, negsuc, nat_abs, Some, Ok, sym, refl, ap, ◌∙◌, mod-eq_of_lt, pow-suc, arith, lit<, eqb→eq, pow_mono}
use lib.Bits.{bit_and}
use Rattle.std.specs.List.{AllByRecursion}
use Rattle.std.proofs.lemmas.Bool.Decides.{nat_tests}
use Rattle.std.proofs.lemmas.Bool.{or_parts, or_left, or_right, both_ways, eqb-false, eq-eqb, ltb-false}
use Rattle.clause.specs.declared.words.Clause.{Clause}
use Rattle.clause.specs.Words.{at, with_atom}
use Rattle.clause.specs.Clauses.{Literals, lits, top, clause_of, clause_if}
use Rattle.clause.specs.Reading.{clear, outside, grown, reads, is_plus, is_minus, some_plus, some_minus, Lists}
use Rattle.clause.proofs.Bits.{at_zero, at_none, at_and, at_with, same_to}
use Rattle.clause.proofs.Truths.{clause_words, same_literals, apart_word, top_none, top_le}
use Rattle.clause.proofs.Readings.{reads_lists}
use Rattle.dimacs_law.specs.Grammar.{InRange, Makes}

-- d is what c becomes by the literals ls, one after the other, of atoms 1 to n
abbrev pub Becomes : ℕ → Clause → List ℤ → Clause → Type 0
Becomes n c [] d = c ≡ d
Becomes n c (l ∷ ls) d = (outside n (nat_abs l) ≡ false) × ((x : Clause) × (grown c l (nat_abs l) ≡ Some x) × Becomes n x ls d)

becomes_reads : (n i : ℕ) (c d : Clause) (ls : List ℤ) → Becomes n c ls d → reads n i c ls ≡ Ok d
unfolding reads
becomes_reads n i c d [] b = ap Ok b
becomes_reads n i c d (l ∷ ls) (f, (x, g, b)) = rw (f, g) (becomes_reads n (i + 1) x d ls b)

pub in_range : (n : ℕ) (l : ℤ) → outside n (nat_abs l) ≡ false → InRange n l
in_range n l e = let h : (0 < nat_abs l) × (nat_abs l ≤ n) = go (nat_abs l) e in h
  where
    go : (a : ℕ) → outside n a ≡ false → (0 < a) × (a ≤ n)
    go a e =
        let p = or_parts (eqb a 0) (ltb (min n 64) a) e in
        let z = eqb-false a 0 p.0 in
        let f = ltb-false (min n 64) a p.1 in
        (some a z, grind arith)
      where
        some : (a : ℕ) → (a ≡ 0 → ⊥) → 0 < a
        some a h = omega arith

becomes_range : (n : ℕ) (c d : Clause) (ls : List ℤ) → Becomes n c ls d → AllByRecursion (InRange n) ls
becomes_range n c d [] b = tt
becomes_range n c d (l ∷ ls) (f, (x, g, b)) = (in_range n l f, becomes_range n x d ls b)

becomes_some : (n : ℕ) (d : Clause) (ls : List ℤ) → Becomes n clear ls d → (top (lits d) ≡ 0 → ⊥) → 0 < length ls
becomes_some n d [] b h = absurd (h (ap (λ (c : Clause). top (lits c)) (sym b) ∙ top_none (lits clear) refl))
becomes_some n d (l ∷ ls) b h = omega arith

pub makes_from : (n : ℕ) (d : Clause) (ls : List ℤ) → Becomes n clear ls d → (top (lits d) ≡ 0 → ⊥) → Makes n ls d
makes_from n d ls b h =
    let set : Lists ls (lits d) = reads_lists n ls (Ok d) (sym (becomes_reads n 0 clear d ls b)) in
    record {
      some = becomes_some n d ls b h;
      range = becomes_range n clear d ls b;
      apart = λ a z. ap (λ (x : Bool). x && some_minus a ls) (sym (set.plus a z)) ∙ ap (λ (x : Bool). at d.positive a && x) (sym (set.minus a z)) ∙ apart_word d.positive d.negative d.apart a;
      set = set;
    }

-- ---- and back

below_pow : (n : ℕ) → n < 2 ^ n
below_pow zero = lit< tt
below_pow (suc n) = let ih = below_pow n in let e = pow-suc 2 n in omega arith

-- words with the same atoms are the same
same_all : (v w : ℕ) → ((a : ℕ) → at v a ≡ at w a) → v ≡ w
same_all v w h =
    let p = below_pow v in
    let q = below_pow w in
    let m = pow_mono {i = v} {j = v + w} (omega arith) in
    let n = pow_mono {i = w} {j = v + w} (omega arith) in
    let l : v < 2 ^ (v + w) = omega arith in
    let k : w < 2 ^ (v + w) = omega arith in
    sym (mod-eq_of_lt l) ∙ (same_to (v + w) v w (λ a _. h a) ∙ mod-eq_of_lt k)

apart_zero : (p n : ℕ) → ((a : ℕ) → at p a && at n a ≡ false) → bit_and p n ≡ 0
apart_zero p n h = same_all (bit_and p n) 0 (λ a. at_and p n a ∙ (h a ∙ sym (at_zero a)))

clause_some : (c : Literals) → bit_and c.pos c.neg ≡ 0 → (x : Clause) × (clause_of c ≡ Some x)
unfolding clause_of
clause_some c e = go (eqb (bit_and c.pos c.neg) 0) (eqb→eq (bit_and c.pos c.neg) 0) (eq-eqb _ 0 e)
  where
    go : (b : Bool) (f : T b → bit_and c.pos c.neg ≡ 0) → b ≡ true → (x : Clause) × (clause_if c.pos c.neg b f ≡ Some x)
    go true f e = (record { positive = c.pos; negative = c.neg; apart = f tt }, refl)
    go false f e = absurd (both_ways false refl e)

-- d has the literals of c, and those of ls
record Joins (c d : Clause) (ls : List ℤ) : Type 0 where
  plus : (a : ℕ) → 0 < a → at d.positive a ≡ at c.positive a || some_plus a ls
  minus : (a : ℕ) → 0 < a → at d.negative a ≡ at c.negative a || some_minus a ls

left_apart : (p e s n t dp dn : Bool) → dp ≡ p || (e || s) → dn ≡ n || t → dp && dn ≡ false → (p || e) && n ≡ false
left_apart p e s n t dp dn f g h = grind arith

right_apart : (p e s n t dp dn : Bool) → dp ≡ p || s → dn ≡ n || (e || t) → dp && dn ≡ false → p && (n || e) ≡ false
right_apart p e s n t dp dn f g h = grind arith

at_atoms : (P : ℕ → Type 0) → P 0 → ((a : ℕ) → 0 < a → P a) → (a : ℕ) → P a
at_atoms P z h zero = z
at_atoms P z h (suc a) = h (suc a) (omega arith)

or_false : (b : Bool) → b || false ≡ b
or_false true = refl
or_false false = refl

-- which atoms a clause has after it grew
grown_atoms : (c x : Clause) (l : ℤ) → 0 < nat_abs l → grown c l (nat_abs l) ≡ Some x
    → (a : ℕ) → (at x.positive a ≡ at c.positive a || is_plus a l) × (at x.negative a ≡ at c.negative a || is_minus a l)
unfolding grown
grown_atoms c x (pos n) z e a =
    let w = clause_words (record { pos = with_atom c.positive n; neg = c.negative }) x e in
    (ap (λ (y : Literals). at y.pos a) w ∙ at_with c.positive n a z, ap (λ (y : Literals). at y.neg a) w ∙ sym (or_false _))
grown_atoms c x (negsuc n) z e a =
    let w = clause_words (record { pos = c.positive; neg = with_atom c.negative (suc n) }) x e in
    (ap (λ (y : Literals). at y.pos a) w ∙ sym (or_false _), ap (λ (y : Literals). at y.neg a) w ∙ at_with c.negative (suc n) a z)

-- nothing keeps a literal of d from going into c
grow_some : (c d : Clause) (l : ℤ) (ls : List ℤ) → 0 < nat_abs l → Joins c d (l ∷ ls) → (x : Clause) × (grown c l (nat_abs l) ≡ Some x)
unfolding grown some_plus some_minus
grow_some c d (pos n) ls z j = clause_some (record { pos = with_atom c.positive n; neg = c.negative })
    (apart_zero (with_atom c.positive n) c.negative (at_atoms _ (ap (λ (b : Bool). b && at c.negative 0) (at_none _ 0 refl))
    (λ a h. ap (λ (b : Bool). b && at c.negative a) (at_with c.positive n a z)
    ∙ left_apart (at c.positive a) (eqb a n) (some_plus a ls) (at c.negative a) (some_minus a ls) _ _ (j.plus a h) (j.minus a h) (apart_word _ _ d.apart a))))
grow_some c d (negsuc n) ls z j = clause_some (record { pos = c.positive; neg = with_atom c.negative (suc n) })
    (apart_zero c.positive (with_atom c.negative (suc n)) (at_atoms _ (ap (λ (b : Bool). b && at (with_atom c.negative (suc n)) 0) (at_none _ 0 refl))
    (λ a h. ap (λ (b : Bool). at c.positive a && b) (at_with c.negative (suc n) a z)
    ∙ right_apart (at c.positive a) (eqb a (suc n)) (some_plus a ls) (at c.negative a) (some_minus a ls) _ _ (j.plus a h) (j.minus a h) (apart_word _ _ d.apart a))))

or_assoc : (x y z : Bool) → x || (y || z) ≡ (x || y) || z
or_assoc true y z = refl
or_assoc false y z = refl

pub not_outside : (n a : ℕ) → n ≤ 64 → 0 < a → a ≤ n → outside n a ≡ false
not_outside n a h k m = grind (arith, nat_tests)

becomes_from : (n : ℕ) (ls : List ℤ) (c d : Clause) → n ≤ 64 → AllByRecursion (InRange n) ls → Joins c d ls → Becomes n c ls d
unfolding some_plus some_minus
becomes_from n [] c d h r j =
    let none : (w : ℕ) → at w 0 ≡ false = λ w. at_none w 0 refl in
    let p : c.positive ≡ d.positive = same_all _ _ (at_atoms _ (none c.positive ∙ sym (none d.positive)) (λ a z. sym (j.plus a z ∙ or_false _))) in
    let m : c.negative ≡ d.negative = same_all _ _ (at_atoms _ (none c.negative ∙ sym (none d.negative)) (λ a z. sym (j.minus a z ∙ or_false _))) in
    same_literals c d (ap (λ (x : ℕ). record { pos = x; neg = c.negative }) p ∙ ap (λ (x : ℕ). record { pos = d.positive; neg = x }) m)
becomes_from n (l ∷ ls) c d h r j =
    let g = grow_some c d l ls r.0.0 j in
    let m = grown_atoms c g.0 l r.0.0 g.1 in (
      not_outside n (nat_abs l) h r.0.0 r.0.1,
      (
        g.0,
        g.1,
        becomes_from n ls g.0 d h r.1 (record {
          plus = λ a z. j.plus a z ∙ (or_assoc (at c.positive a) (is_plus a l) (some_plus a ls) ∙ ap (λ (b : Bool). b || some_plus a ls) (sym (m a).0));
          minus = λ a z. j.minus a z ∙ (or_assoc (at c.negative a) (is_minus a l) (some_minus a ls) ∙ ap (λ (b : Bool). b || some_minus a ls) (sym (m a).1));
        }),
      ),
    )

pub makes_becomes : (n : ℕ) (ls : List ℤ) (d : Clause) → n ≤ 64 → Makes n ls d → Becomes n clear ls d
makes_becomes n ls d h m = becomes_from n ls clear d h m.range (record {
  plus = λ a z. m.set.plus a z ∙ ap (λ (b : Bool). b || some_plus a ls) (sym (at_zero a));
  minus = λ a z. m.set.minus a z ∙ ap (λ (b : Bool). b || some_minus a ls) (sym (at_zero a));
})

pub makes_full : (n : ℕ) (ls : List ℤ) (d : Clause) → n ≤ 64 → Makes n ls d → top (lits d) ≡ 0 → ⊥
unfolding some_plus some_minus
makes_full n [] d h m e = let z = m.some in omega arith
makes_full n (pos k ∷ ls) d h m e =
    let z = m.range.0.0 in
    let s = m.range.0.1 in
    let t : at d.positive k ≡ true = m.set.plus k z ∙ or_left (eqb k k) (some_plus k ls) (eq-eqb k k refl) in
    let g = top_le 64 (lits d) k (omega arith) (or_left (at d.positive k) (at d.negative k) t) in
    omega arith
makes_full n (negsuc k ∷ ls) d h m e =
    let z = m.range.0.0 in
    let s = m.range.0.1 in
    let t : at d.negative (suc k) ≡ true = m.set.minus (suc k) z ∙ or_left (eqb (suc k) (suc k)) (some_minus (suc k) ls) (eq-eqb (suc k) (suc k) refl) in
    let g = top_le 64 (lits d) (suc k) (omega arith) (or_right (at d.positive (suc k)) (at d.negative (suc k)) t) in
    omega arith
