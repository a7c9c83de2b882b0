-- Which atoms stand in a word that was made from others.
use Rattle.std.proofs.Common.{◌≡◌, ℕ, zero, suc, ◌+◌, ◌-◌, ◌*◌, ◌/◌, ◌%◌, ◌^◌, ◌<◌, ◌≤◌, min, max, Bool, true, false, cond, not, ◌&&◌, ◌||◌, eqb, leb, sym, refl, ap, ◌∙◌, ap₂, ⊎_elim, mod-lt, mod-eq_of_lt, mul_comm, one-mul, pow-suc, arith, pow_pos, pow_mono, pow-add}
use Prim.Native.Nat.{differ}
use mathlib.Core.Bool.{and-true, and-false}
use native.Mathlib.Nat.{mod-le, div-eq_of_lt}
use lib.Count.{count_leading_zeros}
use Rattle.std.proofs.lemmas.Nat.{and_mask, one_shl, leading_top, div_below, le-div}
use lib.Bits.{bit_and, bit_or, bit_xor, or_shr, or_step, and_shr, and_step, xor_shr, xor_step, or_lt}
use lib.Pow.{field, shl-shr, shr_le, pow-lt, mod-mod-pow, mod-pow-add}
use Rattle.std.proofs.lemmas.Bool.Decides.{nat_tests}
use Rattle.std.proofs.lemmas.Bool.{ne_eqb, eq-eqb, cases_lt, cases_eq, lt-leb, le-leb}
use Rattle.clause.specs.Words.{at, one, with_atom, without, upto}

pub at_zero : (a : ℕ) → at 0 a ≡ false
unfolding at
at_zero zero = refl
at_zero (suc k) = let h = shr_le 0 k in ne_eqb (0 / 2 ^ k % 2) 1 (omega arith)

max_bit : (m n x : ℕ) → m < 2 → n < 2 → x ≡ max m n → eqb x 1 ≡ eqb m 1 || eqb n 1
max_bit m n x h k e = grind (arith, nat_tests)

min_bit : (m n x : ℕ) → m < 2 → n < 2 → x ≡ min m n → eqb x 1 ≡ eqb m 1 && eqb n 1
min_bit m n x h k e = grind (arith, nat_tests)

abbrev other : Bool → Bool → Bool
other x y = cond x (not y) y

differ_bit : (m n : ℕ) → m < 2 → n < 2 → (differ m n < 2) × (eqb (differ m n) 1 ≡ other (eqb m 1) (eqb n 1))
differ_bit zero zero h k = (omega arith, refl)
differ_bit zero (suc zero) h k = (omega arith, refl)
differ_bit (suc zero) zero h k = (omega arith, refl)
differ_bit (suc zero) (suc zero) h k = (omega arith, refl)
differ_bit zero (suc (suc n)) h k = absurd (omega arith)
differ_bit (suc zero) (suc (suc n)) h k = absurd (omega arith)
differ_bit (suc (suc m)) n h k = absurd (omega arith)

pub at_or : (x y a : ℕ) → at (bit_or x y) a ≡ at x a || at y a
unfolding at
at_or x y zero = refl
at_or x y (suc k) =
    let X = x / 2 ^ k in
    let Y = y / 2 ^ k in
    let e = or_step X Y in
    rw (or_shr x y k) (max_bit (X % 2) (Y % 2) (bit_or X Y % 2) (omega arith) (omega arith) (omega arith))

pub at_and : (x y a : ℕ) → at (bit_and x y) a ≡ at x a && at y a
unfolding at
at_and x y zero = refl
at_and x y (suc k) =
    let X = x / 2 ^ k in
    let Y = y / 2 ^ k in
    let e = and_step X Y in
    rw (and_shr x y k) (min_bit (X % 2) (Y % 2) (bit_and X Y % 2) (omega arith) (omega arith) (omega arith))

pub at_xor : (x y a : ℕ) → at (bit_xor x y) a ≡ other (at x a) (at y a)
unfolding at
at_xor x y zero = refl
at_xor x y (suc k) =
    let X = x / 2 ^ k in
    let Y = y / 2 ^ k in
    let e = xor_step X Y in
    let d = differ_bit (X % 2) (Y % 2) (omega arith) (omega arith) in
    let l = d.0 in
    let f : bit_xor X Y % 2 ≡ differ (X % 2) (Y % 2) = omega arith in
    rw (xor_shr x y k) (rw f d.1)

pub at_one : (p a : ℕ) → 0 < p → at (one p) a ≡ eqb a p
unfolding at one
at_one zero a h = absurd (omega arith)
at_one (suc i) zero h = sym (ne_eqb 0 (suc i) (omega arith))
at_one (suc i) (suc k) h = ⊎_elim
    (λ l. let e : i ≡ suc (i - suc k) + k = omega arith in
    let x = ap (λ (n : ℕ). 2 ^ n / 2 ^ k) e ∙ ap (λ (n : ℕ). n / 2 ^ k) (pow-add 2 (suc (i - suc k)) k) ∙ shl-shr (2 ^ suc (i - suc k)) k in
    ne_eqb _ 1 (omega arith) ∙ sym (ne_eqb (suc k) (suc i) (omega arith)))
    (λ m. ⊎_elim
    (λ z. let x = rw one-mul at (shl-shr 1 k) in rw z (eq-eqb _ 1 (omega arith) ∙ sym (eq-eqb (suc k) (suc k) refl)))
    (λ n. let x = div-eq_of_lt (pow-lt {i = i} {j = k} (omega arith)) in ne_eqb _ 1 (omega arith) ∙ sym (ne_eqb (suc k) (suc i) (omega arith)))
    (cases_eq i k))
    (cases_lt k i)

pub at_with : (w p a : ℕ) → 0 < p → at (with_atom w p) a ≡ at w a || eqb a p
unfolding with_atom
at_with w p a h = at_or w (one p) a ∙ ap (λ (b : Bool). at w a || b) (at_one p a h)

at_both : (w p a : ℕ) → at w a && at (one p) a ≡ at w a && eqb a p
unfolding at one
at_both w zero zero = refl
at_both w zero (suc k) = ap (λ (b : Bool). at w (suc k) && b) (at_zero (suc k) ∙ sym (ne_eqb (suc k) 0 (omega arith)))
at_both w (suc i) a = ap (λ (b : Bool). at w a && b) (at_one (suc i) a (omega arith))

pub at_without : (w p a : ℕ) → at (without w p) a ≡ at w a && not (eqb a p)
unfolding without
at_without w p a = at_xor w (bit_and w (one p)) a ∙ drops (at w a) (at (bit_and w (one p)) a) (eqb a p) (at_and w (one p) a ∙ at_both w p a)
  where
    drops : (x y e : Bool) → y ≡ x && e → other x y ≡ x && not e
    drops x y e h = grind arith

pub at_upto : (w h a : ℕ) → at (upto w h) a ≡ at w a && leb a h
unfolding at upto
at_upto w h zero = refl
at_upto w h (suc k) = ⊎_elim
    (λ l. let e : h ≡ (h - suc k + 1) + k = omega arith in
    let x = ap (λ (n : ℕ). w % 2 ^ n / 2 ^ k) e ∙ field w (h - suc k + 1) k in
    let y = mod-mod-pow (w / 2 ^ k) (h - suc k) 1 in
    ap (λ (n : ℕ). eqb n 1) (ap (λ (n : ℕ). n % 2) x ∙ y) ∙ sym (ap (λ (b : Bool). eqb (w / 2 ^ k % 2) 1 && b) (le-leb (suc k) h l) ∙ and-true (eqb (w / 2 ^ k % 2) 1)))
    (λ l. let m = mod-lt w (pow_pos h) in
    let n = pow_mono l in
    let z = div-eq_of_lt {n = w % 2 ^ h} {m = 2 ^ k} (omega arith) in
    ne_eqb _ 1 (omega arith) ∙ sym (ap (λ (b : Bool). eqb (w / 2 ^ k % 2) 1 && b) (lt-leb (suc k) h (omega arith)) ∙ and-false (eqb (w / 2 ^ k % 2) 1)))
    (cases_lt k h)

pub with_fits : (w p : ℕ) → p ≤ 64 → w < 2 ^ 64 → with_atom w p < 2 ^ 64
unfolding with_atom one
with_fits w zero l h = or_lt 64 w 0 h (pow_pos 64)
with_fits w (suc k) l h = or_lt 64 w (2 ^ k) h (pow-lt {i = k} {j = 64} l)

pub upto_fits : (w h : ℕ) → w < 2 ^ 64 → upto w h < 2 ^ 64
unfolding upto
upto_fits w h l = let m = mod-le w (2 ^ h) in omega arith

-- words with the same atoms are the same
bit_of : (m n : ℕ) → m < 2 → n < 2 → eqb m 1 ≡ eqb n 1 → m ≡ n
bit_of m n h k e = grind (arith, nat_tests)

pub same_to : (k v w : ℕ) → ((a : ℕ) → a ≤ k → at v a ≡ at w a) → v % 2 ^ k ≡ w % 2 ^ k
unfolding at
same_to zero v w h = omega arith
same_to (suc k) v w h =
    let ih = same_to k v w (λ a l. h a (omega arith)) in
    let b : v / 2 ^ k % 2 ≡ w / 2 ^ k % 2 = bit_of (v / 2 ^ k % 2) (w / 2 ^ k % 2) (omega arith) (omega arith) (h (suc k) (omega arith)) in
    let e : suc k ≡ 1 + k = omega arith in
    rw e (mod-pow-add v 1 k ∙ (ap₂ (λ (x y : ℕ). x * 2 ^ k + y) b ih ∙ sym (mod-pow-add w 1 k)))

pub same_words : (v w : ℕ) → v < 2 ^ 64 → w < 2 ^ 64 → ((a : ℕ) → a ≤ 64 → at v a ≡ at w a) → v ≡ w
same_words v w l m h = sym (mod-eq_of_lt l) ∙ (same_to 64 v w h ∙ mod-eq_of_lt m)

-- no atom above 64 stands in a word of 64 bits
pub at_high : (w a : ℕ) → w < 2 ^ 64 → 64 < a → at w a ≡ false
unfolding at
at_high w zero f l = refl
at_high w (suc k) f l =
    let m = pow_mono {i = 64} {j = k} (omega arith) in
    let z = div-eq_of_lt {n = w} {m = 2 ^ k} (omega arith) in
    ne_eqb _ 1 (omega arith)

-- how a program reads an atom
pub at_read : (w a : ℕ) → 0 < a → eqb (bit_and (w / 2 ^ (a - 1)) 1) 1 ≡ at w a
unfolding at
at_read w zero l = absurd (omega arith)
at_read w (suc k) l =
    let e : suc k - 1 ≡ k = omega arith in
    rw e (ap (λ (n : ℕ). eqb n 1) (and_mask (w / 2 ^ k) 1))

pub one_none : (a : ℕ) → a ≡ 0 → 0 ≡ one a
unfolding one
one_none a e = rw e

pub one_some : (a : ℕ) → 0 < a → a ≤ 64 → (1 * 2 ^ (a - 1)) % 2 ^ 64 ≡ one a
unfolding one
one_some zero h l = absurd (omega arith)
one_some (suc k) h l = let e : suc k - 1 ≡ k = omega arith in rw e (one_shl k 64 (omega arith))

-- the highest atom of a word, by its leading zeros
pub record Highest (w : ℕ) : Type 0 where
  pub atom : ℕ
  pub is : 64 - count_leading_zeros 64 w ≡ atom
  pub some : 0 < atom
  pub within : atom ≤ 64
  pub there : at w atom ≡ true
  pub above : (a : ℕ) → atom < a → at w a ≡ false

pub highest_of : (w : ℕ) → 0 < w → w < 2 ^ 64 → Highest w
unfolding at
highest_of w z f =
    let r = leading_top 64 w z f in
    let j = r.0 in
    let e = r.1 in
    let lo = r.2 in
    let hi = r.3 in
    let p = pow-suc 2 j in
    record {
      atom = suc j;
      is = omega arith;
      some = omega arith;
      within = omega arith;
      there = eq-eqb _ 1 (let d : w / 2 ^ j ≡ 1 = quot w (2 ^ j) (pow_pos j) lo (omega arith) in rw d);
      above = beyond j hi;
    }
  where
    quot : (w m : ℕ) → 0 < m → m ≤ w → w < m * 2 → w / m ≡ 1
    quot w m h l u =
        let a : w / m < 2 = div_below w m 2 h (omega (arith, mul_comm m 2)) in
        let b : 1 ≤ w / m = le-div 1 w m h (omega arith) in
        omega arith

    beyond : (j : ℕ) → w < 2 ^ suc j → (a : ℕ) → suc j < a → at w a ≡ false
    beyond j hi zero l = absurd (omega arith)
    beyond j hi (suc k) l =
        let m = pow_mono {i = suc j} {j = k} (omega arith) in
        let z = div-eq_of_lt {n = w} {m = 2 ^ k} (omega arith) in
        ne_eqb _ 1 (omega arith)

pub highest_none : 64 - count_leading_zeros 64 0 ≡ 0
unfolding count_leading_zeros
highest_none = refl

pub at_none : (w a : ℕ) → a ≡ 0 → at w a ≡ false
unfolding at
at_none w zero e = refl
at_none w (suc k) e = absurd (omega arith)
