-- On which levels an entry is linked, and where its links lie.
use Rattle.std.proofs.Common.{◌≡◌, ℕ, zero, suc, ◌+◌, ◌-◌, ◌*◌, ◌/◌, ◌%◌, ◌^◌, ◌<◌, ◌≤◌, sym, refl, ap, ◌∙◌, add-one, arith}
use native.Mathlib.Nat.{zero-mod, mod-one}
use lib.Count.{count_trailing_zeros, under}
use Rattle.std.proofs.lemmas.Nat.{mod-pow-add, one_shl, pow-add, pow_pos}
use Rattle.skip_store.specs.Links.{On, seat}

-- the head is on every level, and every entry on the lowest
pub on_head : (l : ℕ) → On l 0
unfolding On
on_head l = zero-mod (2 ^ l)

pub on_lowest : (j : ℕ) → On 0 j
unfolding On
on_lowest j = mod-one j

pub on_lower : (l j : ℕ) → On (l + 1) j → On l j
unfolding On
on_lower l j h =
    let e : j % 2 ^ (l + 1) ≡ (j / 2 ^ l % 2) * 2 ^ l + j % 2 ^ l = ap (λ x. j % 2 ^ x) (omega arith) ∙ mod-pow-add j 1 l in omega arith

-- one level up goes by the half
on_half : (l n : ℕ) → n % 2 ^ suc l ≡ (n / 2 % 2 ^ l) * 2 + n % 2
on_half l n = ap (λ x. n % 2 ^ x) (sym (add-one l)) ∙ mod-pow-add n l 1

half_on : (l n : ℕ) → On (suc l) n → On l (n / 2) × (n % 2 ≡ 0)
unfolding On
half_on l n h = let e = on_half l n in (omega arith, omega arith)

twice : (l : ℕ) → 2 ^ suc l ≡ 2 * 2 ^ l
twice l = ap (λ x. 2 ^ x) (omega arith) ∙ pow-add 2 1 l

-- ---- the count of zero bits

pub on_from_trailing : (w n l : ℕ) → l ≤ count_trailing_zeros w n → On l n
unfolding On count_trailing_zeros
on_from_trailing w n zero h = mod-one n
on_from_trailing zero n (suc l) h = absurd (omega arith)
on_from_trailing (suc w) n (suc l) h = on_half l n ∙ go (on_from_trailing w (n / 2) l) (n % 2) refl h
  where
    go : (l ≤ count_trailing_zeros w (n / 2) → n / 2 % 2 ^ l ≡ 0) → (d : ℕ) → n % 2 ≡ d → suc l ≤ under d (count_trailing_zeros w (n / 2)) → (n / 2 % 2 ^ l) * 2 + n % 2 ≡ 0
    go f zero e k = let r = f (omega arith) in omega arith
    go f (suc d) e k = absurd (omega arith)

pub trailing_from_on : (w n l : ℕ) → l ≤ w → On l n → l ≤ count_trailing_zeros w n
unfolding On count_trailing_zeros
trailing_from_on w n zero b h = omega arith
trailing_from_on zero n (suc l) b h = b
trailing_from_on (suc w) n (suc l) b h = go (trailing_from_on w (n / 2) l) (n % 2) refl (sym (on_half l n) ∙ h)
  where
    go : (l ≤ w → n / 2 % 2 ^ l ≡ 0 → l ≤ count_trailing_zeros w (n / 2)) → (d : ℕ) → n % 2 ≡ d → (n / 2 % 2 ^ l) * 2 + n % 2 ≡ 0 → suc l ≤ under d (count_trailing_zeros w (n / 2))
    go f zero e k = let r = f (omega arith) (omega arith) in omega arith
    go f (suc d) e k = absurd (omega arith)

-- an entry's number has fewer than 15 zero bits at its low end
pub trailing_small : (n : ℕ) → 0 < n → n ≤ 16384 → count_trailing_zeros 16 n < 15
unfolding On
trailing_small n p q = grind (arith, on_from_trailing 16 n 15)

-- ---- where the links lie

-- an entry on level l is at least 2 ^ l
pub on_least : (l j : ℕ) → 0 < j → On l j → 2 ^ l ≤ j
on_least zero j p o = omega arith
on_least (suc l) j p o =
    let h = half_on l j o in
    let t = twice l in
    let r = on_least l (j / 2) (omega arith) h.0 in
    omega arith

-- the links of p entries lie below 2 * p
pub seat_below : (l j p : ℕ) → 0 < j → j ≤ p → On l j → seat j l < 2 * p
unfolding seat
seat_below l j p z h o = let a = on_least l j z o in let b = pow_pos l in omega arith

-- on one level, other entries have their links elsewhere
pub seat_entry : (l i j : ℕ) → 0 < i → 0 < j → On l i → On l j → seat i l ≡ seat j l → i ≡ j
unfolding seat
seat_entry l i j p q o r e = let a = on_least l i p o in let b = on_least l j q r in omega arith

-- links on other levels lie elsewhere
level_of : (m l i j : ℕ) → 0 < i → 0 < j → On m i → On l j → 2 * i - 2 ^ m ≡ 2 * j - 2 ^ l → m ≡ l
level_of zero zero i j p q o r e = refl
level_of zero (suc l) i j p q o r e =
    let t = twice l in let a = on_least (suc l) j q r in absurd (omega arith)
level_of (suc m) zero i j p q o r e =
    let t = twice m in let a = on_least (suc m) i p o in absurd (omega arith)
level_of (suc m) (suc l) i j p q o r e =
    let h = half_on m i o in
    let k = half_on l j r in
    let s = twice m in
    let t = twice l in
    ap suc (level_of m l (i / 2) (j / 2) (omega arith) (omega arith) h.0 k.0 (omega arith))

pub seat_level : (m l i j : ℕ) → 0 < i → 0 < j → On m i → On l j → seat i m ≡ seat j l → m ≡ l
unfolding seat
seat_level m l i j p q o r e = let a = on_least m i p o in let b = on_least l j q r in level_of m l i j p q o r (omega arith)

-- the power of two that a level is worth, as a shift gives it
pub shifted : (l j : ℕ) → 0 < j → l < 15 → On l j → ((1 * 2 ^ l) % 2 ^ 64 ≡ 2 ^ l) × (2 ^ l ≤ j)
shifted l j p b o = (one_shl l 64 (omega arith), on_least l j p o)

pub seat_is : (l j x : ℕ) → x ≡ 2 ^ l → 2 * j - x - 1 ≡ seat j l
unfolding seat
seat_is l j x e = omega arith
