-- The words of clause k by its digits, and the order of the clauses by their numbers.
use Rattle.std.proofs.Common.{◌≡◌, ℕ, zero, suc, ◌+◌, ◌-◌, ◌*◌, ◌/◌, ◌%◌, ◌^◌, ◌<◌, ◌≤◌, Bool, true, cond, eqb, sym, refl, ap, ◌∙◌, subst, ap₂, ⊎_elim, pow-suc, one-add, arith}
use Rattle.std.proofs.lemmas.Nat.{shr-shr}
use Rattle.std.proofs.lemmas.Bool.Decides.{nat_tests}
use Rattle.std.proofs.lemmas.Bool.{cases_lt}
use Rattle.clause.specs.Words.{at}
use Rattle.clause.proofs.Bits.{at_zero, at_none}
use Rattle.clause.specs.Clauses.{Literals}
use Rattle.clause.specs.Order.{treats}
use Rattle.nth_clause.specs.Digits.{unit, word, InOrder}

pub word_none : (d n k : ℕ) → n ≡ 0 → 0 ≡ word d n k
unfolding word
word_none d zero k e = refl
word_none d (suc n) k e = absurd (omega arith)

pub word_more : (d n k : ℕ) → 0 < n → 2 * word d (n - 1) (k / 3) + unit d k ≡ word d n k
unfolding word
word_more d zero k h = absurd (omega arith)
word_more d (suc n) k h = let e : suc n - 1 ≡ n = omega arith in ap (λ m. 2 * word d m (k / 3) + unit d k) e

pub unit_bit : (d k : ℕ) → unit d k < 2
unit_bit d k = grind (arith, nat_tests)

-- one bit more fits one bit more
pub more_fits : (n w u : ℕ) → 0 < n → w < 2 ^ (n - 1) → u < 2 → 2 * w + u < 2 ^ n
more_fits zero w u p h l = absurd (omega arith)
more_fits (suc n) w u p h l =
    let e : suc n - 1 ≡ n = omega arith in
    let b : w < 2 ^ n = subst (λ m. w < 2 ^ m) e h in
    rw pow-suc (omega arith)

-- the lowest atom of a word with one bit more, and the others
low : (x u : ℕ) → u < 2 → at (2 * x + u) 1 ≡ eqb u 1
unfolding at
low x u h = let e : (2 * x + u) / 2 ^ 0 % 2 ≡ u = omega arith in ap (λ m. eqb m 1) e

up : (x u a : ℕ) → u < 2 → at (2 * x + u) (suc (suc a)) ≡ at x (suc a)
unfolding at
up x u a h =
    let e : (2 * x + u) / 2 ^ 1 ≡ x = omega arith in
    let s : (2 * x + u) / 2 ^ 1 / 2 ^ a ≡ (2 * x + u) / 2 ^ suc a = shr-shr (2 * x + u) 1 a ∙ ap (λ m. (2 * x + u) / 2 ^ m) (one-add a) in
    ap (λ m. eqb (m % 2) 1) (sym s ∙ ap (λ m. m / 2 ^ a) e)

-- the literals of the lowest n digits
abbrev spelled : ℕ → ℕ → Literals
spelled n k = record { pos = word 1 n k; neg = word 2 n k }

first_is : (k : ℕ) (p q : Bool) → p ≡ eqb (unit 1 k) 1 → q ≡ eqb (unit 2 k) 1 → cond p 1 (cond q 2 0) ≡ k % 3
first_is k p q e f = grind (arith, nat_tests)

-- the lowest atom is treated by the lowest digit
first : (n k : ℕ) → treats (spelled (suc n) k) 1 ≡ k % 3
unfolding word
first n k = first_is k _ _ (low (word 1 n (k / 3)) (unit 1 k) (unit_bit 1 k)) (low (word 2 n (k / 3)) (unit 2 k) (unit_bit 2 k))

-- the others by the other digits
rest : (n k a : ℕ) → treats (spelled (suc n) k) (suc (suc a)) ≡ treats (spelled n (k / 3)) (suc a)
unfolding word
rest n k a =
    ap₂ (λ (p q : Bool). cond p 1 (cond q 2 0)) (up (word 1 n (k / 3)) (unit 1 k) a (unit_bit 1 k)) (up (word 2 n (k / 3)) (unit 2 k) a (unit_bit 2 k))

both_not : (k : ℕ) → eqb (unit 1 k) 1 ≡ true → eqb (unit 2 k) 1 ≡ true → ⊥
both_not k e f = grind (arith, nat_tests)

-- no atom stands in both words
pub apart_at : (n k a : ℕ) → at (word 1 n k) a ≡ true → at (word 2 n k) a ≡ true → ⊥
unfolding word
apart_at zero k a e f = let z = at_zero a in let o : ◌≡◌ {A = ℕ} 0 1 = cc in omega arith
apart_at (suc n) k zero e f = let z = at_none (word 1 (suc n) k) 0 refl in let o : ◌≡◌ {A = ℕ} 0 1 = cc in omega arith
apart_at (suc n) k (suc zero) e f =
    both_not k (sym (low (word 1 n (k / 3)) (unit 1 k) (unit_bit 1 k)) ∙ e) (sym (low (word 2 n (k / 3)) (unit 2 k) (unit_bit 2 k)) ∙ f)
apart_at (suc n) k (suc (suc a)) e f =
    apart_at n (k / 3) (suc a) (sym (up (word 1 n (k / 3)) (unit 1 k) a (unit_bit 1 k)) ∙ e) (sym (up (word 2 n (k / 3)) (unit 2 k) a (unit_bit 2 k)) ∙ f)

-- c comes before d, decided at one of the first n atoms
record Later (n : ℕ) (c d : Literals) : Type 0 where
  atom : ℕ
  some : 0 < atom
  within : atom ≤ n
  lower : treats c atom < treats d atom
  alike : (a : ℕ) → atom < a → treats c a ≡ treats d a

raise_lower : (n j k p : ℕ) → 0 < p → treats (spelled n (j / 3)) p < treats (spelled n (k / 3)) p
    → treats (spelled (suc n) j) (suc p) < treats (spelled (suc n) k) (suc p)
raise_lower n j k zero h l = absurd (omega arith)
raise_lower n j k (suc p) h l =
    subst (λ m. m < treats (spelled (suc n) k) (suc (suc p))) (sym (rest n j p))
    (subst (λ m. treats (spelled n (j / 3)) (suc p) < m) (sym (rest n k p)) l)

raise_alike : (n j k p : ℕ) → ((a : ℕ) → p < a → treats (spelled n (j / 3)) a ≡ treats (spelled n (k / 3)) a)
    → (a : ℕ) → suc p < a → treats (spelled (suc n) j) a ≡ treats (spelled (suc n) k) a
raise_alike n j k p f zero h = absurd (omega arith)
raise_alike n j k p f (suc zero) h = absurd (omega arith)
raise_alike n j k p f (suc (suc a)) h = rest n j a ∙ f (suc a) (omega arith) ∙ sym (rest n k a)

-- decided at a higher digit
raise : (n j k : ℕ) → Later n (spelled n (j / 3)) (spelled n (k / 3)) → Later (suc n) (spelled (suc n) j) (spelled (suc n) k)
raise n j k l =
    record {
      atom = suc l.atom;
      some = omega arith;
      within = omega arith;
      lower = raise_lower n j k l.atom l.some l.lower;
      alike = raise_alike n j k l.atom l.alike;
    }

-- decided at the lowest digit
settle : (n j k : ℕ) → j < k → j / 3 ≡ k / 3 → Later (suc n) (spelled (suc n) j) (spelled (suc n) k)
settle n j k h e =
    let m : j % 3 < k % 3 = omega arith in
    record {
      atom = 1;
      some = omega arith;
      within = omega arith;
      lower = subst (λ x. x < treats (spelled (suc n) k) 1) (sym (first n j)) (subst (λ x. j % 3 < x) (sym (first n k)) m);
      alike = raise_alike n j k 0 (λ a _. ap (λ x. treats (spelled n x) a) e);
    }

later : (n j k : ℕ) → j < k → k < 3 ^ n → Later n (spelled n j) (spelled n k)
later zero j k h l = absurd (omega arith)
later (suc n) j k h l =
    let m : k < 3 ^ n * 3 = rw pow-suc at l in
    ⊎_elim (λ (p : j / 3 < k / 3). raise n j k (later n (j / 3) (k / 3) p (omega arith)))
    (λ q. settle n j k h (omega arith)) (cases_lt (j / 3) (k / 3))

pub in_order : InOrder
in_order j k h l =
    let d = later 21 j k h l in
    record { atom = d.atom; within = omega arith; lower = d.lower; alike = λ a _ p. d.alike a p }
