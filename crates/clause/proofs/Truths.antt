-- Truth and the highest atom of a set of literals.
use Rattle.std.proofs.Common.{◌≡◌, ℕ, zero, suc, ◌-◌, ◌^◌, ◌<◌, ◌≤◌, Bool, true, false, cond, not, ◌&&◌, ◌||◌, T, eqb, Some, None, Option, sym, refl, ap, ◌∙◌, subst, ⊎_elim, arith, eqb→eq}
use native.Mathlib.Nat.{ℕ_set}
use mathlib.Core.Bool.{false≢true}
use lib.Bits.{bit_and, bit_or, bit_xor}
use lib.Count.{count_leading_zeros}
use Rattle.std.proofs.lemmas.Bool.Decides.{nat_tests}
use Rattle.std.proofs.lemmas.Bool.{cases_eq, cases_Bool, cases_lt, or_left, or_right, both_ways, eq-eqb, ne_eqb, and_parts}
use Rattle.std.proofs.lemmas.Nat.{and_le_l}
use Rattle.clause.proofs.Bits.{at_or, at_and, at_xor, at_zero, at_without, Highest, highest_of, highest_none}
use Rattle.clause.specs.declared.words.Clause.{Clause}
use Rattle.clause.specs.Words.{at, without}
use Rattle.clause.specs.Clauses.{Literals, makes, makes_to, top, top_to, lit, lits, has, Shares, clause_of, clause_if, joined, positive_in, negative_in}

pub at_none : (w : ℕ) → at w 0 ≡ false
unfolding at
at_none w = refl

pub lit_none : (v : ℕ) (c : Literals) → lit v c 0 ≡ false
lit_none v c = grind (arith, at_none)

pub makes_find : (k v : ℕ) (c : Literals) → makes_to k v c ≡ true → (a : ℕ) × (a ≤ k) × (lit v c a ≡ true)
unfolding makes_to
makes_find zero v c e = absurd (false≢true e)
makes_find (suc k) v c e = go (lit v c (suc k)) refl e (makes_find k v c)
  where
    go : (t : Bool) → lit v c (suc k) ≡ t → t || makes_to k v c ≡ true → (makes_to k v c ≡ true → (a : ℕ) × (a ≤ k) × (lit v c a ≡ true)) → (a : ℕ) × (a ≤ suc k) × (lit v c a ≡ true)
    go true q f ih = (suc k, omega arith, q)
    go false q f ih = let r = ih f in let h = r.1 in (r.0, omega arith, r.2)

pub makes_some : (k v : ℕ) (c : Literals) (a : ℕ) → a ≤ k → lit v c a ≡ true → makes_to k v c ≡ true
unfolding makes_to
makes_some zero v c a h e = let z : a ≡ 0 = omega arith in sym (lit_none v c) ∙ (rw z at e)
makes_some (suc k) v c a h e =
    let ih = makes_some k v c a in
    ⊎_elim (λ z. or_left (lit v c (suc k)) (makes_to k v c) (rw z at e)) (λ z. or_right (lit v c (suc k)) (makes_to k v c) (ih (omega arith) e)) (cases_eq a (suc k))

pub top_bound : (k : ℕ) (c : Literals) → top_to k c ≤ k
unfolding top_to
top_bound zero c = omega arith
top_bound (suc k) c = let ih = top_bound k c in grind (arith)

pub top_le : (k : ℕ) (c : Literals) (a : ℕ) → a ≤ k → has c a ≡ true → a ≤ top_to k c
unfolding top_to
top_le zero c a h e = omega arith
top_le (suc k) c a h e = let ih = top_le k c a in grind (arith, nat_tests)

pub top_has : (k : ℕ) (c : Literals) → 0 < top_to k c → has c (top_to k c) ≡ true
unfolding top_to
top_has zero c h = absurd (omega arith)
top_has (suc k) c h = let ih = top_has k c in grind (arith, nat_tests)

-- no literal is true where the clause is not
pub makes_none : (k v : ℕ) (c : Literals) → makes_to k v c ≡ false → (a : ℕ) → a ≤ k → lit v c a ≡ false
makes_none k v c e a h = ⊎_elim (λ t. absurd (both_ways _ e (makes_some k v c a h t))) (λ f. f) (cases_Bool (lit v c a))

pub makes_not : (k v : ℕ) (c : Literals) → ((a : ℕ) → a ≤ k → lit v c a ≡ false) → makes_to k v c ≡ false
makes_not k v c h = ⊎_elim (λ t. let r = makes_find k v c t in absurd (both_ways _ (h r.0 r.1) r.2)) (λ f. f) (cases_Bool (makes_to k v c))

pub lit_has : (v : ℕ) (c : Literals) (a : ℕ) → lit v c a ≡ true → has c a ≡ true
lit_has v c a e = grind arith

pub above_top : (c : Literals) (a : ℕ) → a ≤ 64 → top c < a → has c a ≡ false
above_top c a h l = ⊎_elim (λ t. let k = top_le 64 c a h t in absurd (omega arith)) (λ f. f) (cases_Bool (has c a))

-- a clause looks at no atom above its highest
pub makes_agree : (v w : ℕ) (c : Literals) → ((a : ℕ) → a ≤ top c → at v a ≡ at w a) → makes v c ≡ true → makes w c ≡ true
makes_agree v w c h e =
    let r = makes_find 64 v c e in
    let q = h r.0 (top_le 64 c r.0 r.1 (lit_has v c r.0 r.2)) in
    makes_some 64 w c r.0 r.1 (rw q at r.2)

-- a set of literals without atoms is true nowhere
pub empty_false : (v : ℕ) (d : Literals) → top d ≡ 0 → makes v d ≡ true → ⊥
empty_false v d e t =
    let r = makes_find 64 v d t in
    let l = top_le 64 d r.0 r.1 (lit_has v d r.0 r.2) in
    let z : r.0 ≡ 0 = omega arith in
    both_ways _ (lit_none v d) (rw z at r.2)

-- the word of the atoms of c
pub has_word : (c : Literals) (a : ℕ) → at (bit_or c.pos c.neg) a ≡ has c a
has_word c a = at_or c.pos c.neg a

pub top_none : (c : Literals) → bit_or c.pos c.neg ≡ 0 → top c ≡ 0
top_none c e = ⊎_elim
    (λ z. z)
    (λ n. absurd (both_ways _ (ap (λ (w : ℕ). at w (top c)) e ∙ at_zero (top c)) (has_word c (top c) ∙ top_has 64 c (omega arith))))
    (cases_eq (top c) 0)

pub top_some : (c : Literals) → (h : Highest (bit_or c.pos c.neg)) → top c ≡ h.atom
top_some c h =
    let l = top_le 64 c h.atom h.within (sym (has_word c h.atom) ∙ h.there) in
    let s = h.some in
    let u : top c ≤ h.atom = ⊎_elim
    (λ b. absurd (both_ways _ (h.above (top c) b) (has_word c (top c) ∙ top_has 64 c (omega arith))))
    (λ b. b)
    (cases_lt h.atom (top c)) in
    omega arith

-- the highest atom by leading zeros
pub top_word : (c : Literals) → bit_or c.pos c.neg < 2 ^ 64 → 64 - count_leading_zeros 64 (bit_or c.pos c.neg) ≡ top c
top_word c f = ⊎_elim
    (λ z. ap (λ (w : ℕ). 64 - count_leading_zeros 64 w) z ∙ highest_none ∙ sym (top_none c z))
    (λ n. let h = highest_of (bit_or c.pos c.neg) (omega arith) f in h.is ∙ sym (top_some c h))
    (cases_eq (bit_or c.pos c.neg) 0)

pub empty_word : (c : Literals) → bit_or c.pos c.neg < 2 ^ 64 → eqb (bit_or c.pos c.neg) 0 ≡ eqb (top c) 0
empty_word c f = ⊎_elim
    (λ z. eq-eqb _ 0 z ∙ sym (eq-eqb _ 0 (top_none c z)))
    (λ n. let h = highest_of (bit_or c.pos c.neg) (omega arith) f in
    let s = h.some in
    let e = top_some c h in
    ne_eqb _ 0 n ∙ sym (ne_eqb (top c) 0 (omega arith)))
    (cases_eq (bit_or c.pos c.neg) 0)

-- the word of the atoms whose literals are true
lit_word : (v : ℕ) (c : Literals) (a : ℕ) → at (bit_or (bit_and c.pos v) (bit_and c.neg (bit_xor c.neg v))) a ≡ lit v c a
lit_word v c a =
    parts (at c.pos a) (at c.neg a) (at v a) _ _ _ _
    (at_or (bit_and c.pos v) (bit_and c.neg (bit_xor c.neg v)) a)
    (at_and c.pos v a) (at_and c.neg (bit_xor c.neg v) a) (at_xor c.neg v a)
  where
    parts : (p n v w x y z : Bool) → w ≡ x || y → x ≡ p && v → y ≡ n && z → z ≡ cond n (not v) v → w ≡ (p && v) || (n && not v)
    parts p n v w x y z e f g h = grind arith

-- a clause is true exactly where that word is not 0
pub makes_word : (v : ℕ) (c : Literals) → bit_or (bit_and c.pos v) (bit_and c.neg (bit_xor c.neg v)) < 2 ^ 64
    → not (eqb (bit_or (bit_and c.pos v) (bit_and c.neg (bit_xor c.neg v))) 0) ≡ makes v c
makes_word v c f =
    let w = bit_or (bit_and c.pos v) (bit_and c.neg (bit_xor c.neg v)) in
    ⊎_elim
    (λ z. ap not (eq-eqb w 0 z) ∙ sym (makes_not 64 v c (λ a l. sym (lit_word v c a) ∙ ap (λ (x : ℕ). at x a) z ∙ at_zero a)))
    (λ n. let h = highest_of w (omega arith) f in
    ap not (ne_eqb w 0 n) ∙ sym (makes_some 64 v c h.atom h.within (sym (lit_word v c h.atom) ∙ h.there)))
    (cases_eq w 0)

-- words that share a bit share an atom
pub shares_word : (p n : ℕ) → p < 2 ^ 64 → (bit_and p n ≡ 0 → ⊥) → Shares p n
shares_word p n f e =
    let l = and_le_l p n in
    let h = highest_of (bit_and p n) (omega arith) (omega arith) in
    let q = and_parts _ _ (sym (at_and p n h.atom) ∙ h.there) in
    (h.atom, q.0, q.1)

pub apart_word : (p n : ℕ) → bit_and p n ≡ 0 → (a : ℕ) → at p a && at n a ≡ false
apart_word p n e a = sym (at_and p n a) ∙ ap (λ (w : ℕ). at w a) e ∙ at_zero a

-- the clause of two words has those words
pub clause_words : (c : Literals) (d : Clause) → clause_of c ≡ Some d → lits d ≡ c
unfolding clause_of
clause_words c d e = go (eqb (bit_and c.pos c.neg) 0) (eqb→eq (bit_and c.pos c.neg) 0) e
  where
    go : (b : Bool) (f : T b → bit_and c.pos c.neg ≡ 0) → clause_if c.pos c.neg b f ≡ Some d → lits d ≡ c
    go true f e = ap (λ (o : Option Clause). words o) (sym e)
      where
        words : Option Clause → Literals
        words (Some x) = lits x
        words None = c
    go false f e = let z : ◌≡◌ {A = ℕ} 0 1 = cc in absurd (omega arith)

-- what joining two clauses without an atom gives
pub joined_pos : (r c : Literals) (p a : ℕ) → at (joined r c p).pos a ≡ positive_in r c p a
unfolding joined
joined_pos r c p a = at_or (without r.pos p) c.pos a ∙ ap (λ (b : Bool). b || at c.pos a) (at_without r.pos p a)

pub joined_neg : (r c : Literals) (p a : ℕ) → at (joined r c p).neg a ≡ negative_in r c p a
unfolding joined
joined_neg r c p a = at_or r.neg (without c.neg p) a ∙ ap (λ (b : Bool). at r.neg a || b) (at_without c.neg p a)

-- a clause is its literals
abbrev made : (p n : ℕ) → bit_and p n ≡ 0 → Clause
made p n f = record { positive = p; negative = n; apart = f }

same_made : (p n q m : ℕ) (f : bit_and p n ≡ 0) → p ≡ q → n ≡ m → (g : bit_and q m ≡ 0) → made p n f ≡ made q m g
same_made p n q m f e k =
    let P : ℕ → Type 0 = λ x. (g : bit_and x m ≡ 0) → made p n f ≡ made x m g in
    let Q : ℕ → Type 0 = λ x. (g : bit_and p x ≡ 0) → made p n f ≡ made p x g in
    subst P e (subst Q k (λ g. ap (made p n) (ℕ_set _ _ f g)))

pub same_literals : (c d : Clause) → lits c ≡ lits d → c ≡ d
same_literals c d e =
    same_made c.positive c.negative d.positive d.negative c.apart (ap (λ (x : Literals). x.pos) e) (ap (λ (x : Literals). x.neg) e) d.apart
