-- Words by their atoms: words with the same atoms are one, and a word with a single one is that of one atom.
use Rattle.std.proofs.Common.{◌≡◌, ℕ, zero, suc, ◌+◌, ◌*◌, ◌/◌, ◌%◌, ◌^◌, ◌<◌, true, eqb, sym, refl, ap, ◌∙◌, ap₂, add-zero, mod-lt, zero-lt-suc, one-mul, pow-suc, div-add-mod', div-one, arith}
use lib.Arith.{bin_ind}
use lib.Bits.{bit_and}
use lib.Count.{ones, ones_step, ones_cat}
use Rattle.std.proofs.lemmas.Nat.{shr-shr, pow_pos}
use Rattle.std.proofs.lemmas.Bool.{and_parts, both_ways}
use Rattle.std.proofs.lemmas.Bool.Decides.{nat_tests}
use Rattle.clause.specs.Words.{at, one}
use Rattle.clause.specs.Clauses.{Shares}
use Rattle.clause.proofs.Bits.{at_and, at_one, at_zero, at_none}

bit_of : (m n : ℕ) → m < 2 → n < 2 → eqb m 1 ≡ eqb n 1 → m ≡ n
bit_of m n h k e = grind (arith, nat_tests)

-- the atoms of a word, and of its half
at_half : (w k : ℕ) → at w (suc (suc k)) ≡ at (w / 2) (suc k)
unfolding at
at_half w k =
    let e : suc k ≡ 1 + k = omega arith in
    ap (λ (n : ℕ). eqb (n % 2) 1) (ap (λ (n : ℕ). w / 2 ^ n) e ∙ sym (shr-shr w 1 k))

at_low : (w : ℕ) → at w 1 ≡ eqb (w % 2) 1
unfolding at
at_low w = ap (λ (n : ℕ). eqb (n % 2) 1) (div-one w)

low : (v w : ℕ) → at v 1 ≡ at w 1 → v % 2 ≡ w % 2
low v w e = bit_of (v % 2) (w % 2) (mod-lt v (zero-lt-suc 1)) (mod-lt w (zero-lt-suc 1)) (sym (at_low v) ∙ e ∙ at_low w)

none : (w : ℕ) → ((k : ℕ) → at w (suc k) ≡ at 0 (suc k)) → w ≡ 0
none =
    bin_ind (λ (n : ℕ). ((k : ℕ) → at n (suc k) ≡ at 0 (suc k)) → n ≡ 0) (λ h. refl)
    (λ n ih h.
    let q : n / 2 ≡ 0 = ih (λ k. sym (at_half n k) ∙ h (suc k) ∙ (at_zero (suc (suc k)) ∙ sym (at_zero (suc k)))) in
    let r : n % 2 ≡ 0 % 2 = low n 0 (h 0) in
    sym (div-add-mod' n 2) ∙ ap₂ (λ (a b : ℕ). a * 2 + b) q r)

pub same_atoms : (v w : ℕ) → ((k : ℕ) → at v (suc k) ≡ at w (suc k)) → v ≡ w
same_atoms v =
    bin_ind (λ (n : ℕ). (w : ℕ) → ((k : ℕ) → at n (suc k) ≡ at w (suc k)) → n ≡ w)
    (λ w h. sym (none w (λ k. sym (h k))))
    (λ n ih w h.
    let q : n / 2 ≡ w / 2 = ih (w / 2) (λ k. sym (at_half n k) ∙ h (suc k) ∙ at_half w k) in
    let r : n % 2 ≡ w % 2 = low n w (h 0) in
    sym (div-add-mod' n 2) ∙ ap₂ (λ (a b : ℕ). a * 2 + b) q r ∙ div-add-mod' w 2)
    v

-- a word that is not 0 has an atom
pub some_atom : (w : ℕ) → (w ≡ 0 → ⊥) → (a : ℕ) × (at w a ≡ true)
some_atom =
    bin_ind (λ (n : ℕ). (n ≡ 0 → ⊥) → (a : ℕ) × (at n a ≡ true)) (λ h. absurd (h refl))
    (λ n ih h. step n ih h (n % 2) refl (mod-lt n (zero-lt-suc 1)))
  where
    up : (n a : ℕ) → at (n / 2) a ≡ true → (b : ℕ) × (at n b ≡ true)
    up n zero e = absurd (both_ways _ (at_none (n / 2) 0 refl) e)
    up n (suc k) e = (suc (suc k), at_half n k ∙ e)

    step : (n : ℕ) → ((n / 2 ≡ 0 → ⊥) → (a : ℕ) × (at (n / 2) a ≡ true)) → (n ≡ 0 → ⊥) → (r : ℕ) → n % 2 ≡ r → r < 2 → (a : ℕ) × (at n a ≡ true)
    step n ih h zero e l =
        let d = div-add-mod' n 2 in
        let p = ih (λ z. h (omega arith)) in up n p.0 p.1
    step n ih h (suc zero) e l = (1, at_low n ∙ ap (λ (m : ℕ). eqb m 1) e)
    step n ih h (suc (suc r)) e l = absurd (omega arith)

-- words that share a bit share an atom
pub shares : (p n : ℕ) → (bit_and p n ≡ 0 → ⊥) → Shares p n
shares p n h = let s = some_atom (bit_and p n) h in let b = and_parts _ _ (sym (at_and p n s.0) ∙ s.1) in (s.0, b.0, b.1)

ones_none : (w : ℕ) → ones w ≡ 0 → w ≡ 0
ones_none =
    bin_ind (λ (n : ℕ). ones n ≡ 0 → n ≡ 0) (λ h. refl)
    (λ n ih h.
    let s : ones n ≡ n % 2 + ones (n / 2) = ones_step n in
    let q : n / 2 ≡ 0 = ih (omega arith) in
    let r : n % 2 ≡ 0 = omega arith in
    sym (div-add-mod' n 2) ∙ ap₂ (λ (a b : ℕ). a * 2 + b) q r)

ones_pow : (i : ℕ) → ones (2 ^ i) ≡ 1
unfolding ones
ones_pow i = ap ones (sym (add-zero (1 * 2 ^ i) ∙ one-mul (2 ^ i))) ∙ ones_cat i 1 0 (pow_pos i) ∙ single
  where
    single : ones 1 + ones 0 ≡ 1
    single = refl

ones_0_not : ones 0 ≡ 1 → ⊥
unfolding ones
ones_0_not h = omega arith

pow_of_ones : (w : ℕ) → ones w ≡ 1 → (i : ℕ) × (w ≡ 2 ^ i)
pow_of_ones =
    bin_ind (λ (n : ℕ). ones n ≡ 1 → (i : ℕ) × (n ≡ 2 ^ i)) (λ h. absurd (ones_0_not h))
    (λ n ih h. step n ih h (n % 2) refl (mod-lt n (zero-lt-suc 1)))
  where
    step : (n : ℕ) → (ones (n / 2) ≡ 1 → (i : ℕ) × (n / 2 ≡ 2 ^ i)) → ones n ≡ 1 → (r : ℕ) → n % 2 ≡ r → r < 2 → (i : ℕ) × (n ≡ 2 ^ i)
    step n ih h zero e l =
        let s : ones n ≡ n % 2 + ones (n / 2) = ones_step n in
        let p = ih (omega arith) in
        (suc p.0, sym (div-add-mod' n 2) ∙ ap₂ (λ (a b : ℕ). a * 2 + b) p.1 e ∙ add-zero (2 ^ p.0 * 2) ∙ sym (pow-suc 2 p.0))
    step n ih h (suc zero) e l =
        let s : ones n ≡ n % 2 + ones (n / 2) = ones_step n in
        let z : n / 2 ≡ 0 = ones_none (n / 2) (omega arith) in
        (0, sym (div-add-mod' n 2) ∙ ap₂ (λ (a b : ℕ). a * 2 + b) z e)
    step n ih h (suc (suc r)) e l = absurd (omega arith)

-- a word with a single one is that of one atom
pub single_atom : (w : ℕ) → ones w ≡ 1 → (p : ℕ) × (0 < p) × ((a : ℕ) → at w a ≡ eqb a p)
unfolding one
single_atom w h =
    let i = pow_of_ones w h in
    (suc i.0, omega arith, λ a. ap (λ (m : ℕ). at m a) i.1 ∙ at_one (suc i.0) a (omega arith))

-- and the word of one atom has a single one
pub atom_single : (w p : ℕ) → 0 < p → ((a : ℕ) → at w a ≡ eqb a p) → ones w ≡ 1
unfolding one
atom_single w zero l h = absurd (omega arith)
atom_single w (suc i) l h = ap ones (same_atoms w (2 ^ i) (λ k. h (suc k) ∙ sym (at_one (suc i) (suc k) (omega arith)))) ∙ ones_pow i
