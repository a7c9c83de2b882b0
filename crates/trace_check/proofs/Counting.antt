-- Given lines counted, and the trailer that says how many they are.
use Rattle.std.specs.List.{range_with_len, count_by}
use Rattle.std.proofs.lemmas.Bool.{le-leb}
use Rattle.std.proofs.lemmas.List.Sums.{sum_by-append}
use Rattle.std.proofs.lemmas.Grind.{same_number_lists}
use Rattle.std.proofs.lemmas.List.FromFn.{length-range_with_len, get_or-range_with_len}
use Rattle.std.proofs.Common.{◌<◌, get_or, zero, suc, ◌&&◌, [], ◌∷◌, ◌++◌, refl, sym, ap, ap₂, ◌∙◌, add-zero, zero-add, ◌≡◌, ℕ, ◌+◌, ◌-◌, ◌*◌, ◌≤◌, Bool, cond, List, length, div-mul-le_self, arith}
use Rattle.lines.specs.Format.{line_at, reaches}
use Rattle.rule.specs.Tests.{is_bare}
use Rattle.trace_check.specs.Trailers.{givens, Ended}

-- the numbers from a on, one more
range_more : (a n : ℕ) → range_with_len a (suc n) ≡ range_with_len a n ++ (a + n) ∷ []
range_more a zero = ap (λ (k : ℕ). k ∷ []) (sym (add-zero a))
range_more a (suc n) = ap (λ (ks : List ℕ). a ∷ ks) (range_more (a + 1) n ∙ ap (λ (k : ℕ). range_with_len (a + 1) n ++ k ∷ []) (omega arith))

abbrev pub given_at : List ℕ → ℕ → Bool
given_at bs k = reaches bs k && is_bare (line_at bs k)

counted : (bs : List ℕ) (n : ℕ) → 24 * n ≤ length bs → count_by (given_at bs) (range_with_len 1 n) ≡ givens bs n
unfolding givens
counted bs zero h = refl
counted bs (suc n) h =
    let one : 1 + n ≡ suc n = omega arith in
    let step : given_at bs (1 + n) ≡ is_bare (line_at bs (suc n)) = ap (given_at bs) one ∙ there (suc n) (omega arith) h (is_bare (line_at bs (suc n))) in
    ap (count_by (given_at bs)) (range_more 1 n) ∙ sum_by-append (λ (k : ℕ). cond (given_at bs k) 1 0) (range_with_len 1 n) ((1 + n) ∷ [])
    ∙ ap₂ (λ (x y : ℕ). x + y) (counted bs n (omega arith)) (zero-add (cond (given_at bs (1 + n)) 1 0) ∙ ap (λ (b : Bool). cond b 1 0) step)
  where
    there : (k : ℕ) → 1 ≤ k → 24 * k ≤ length bs → (b : Bool) → reaches bs k && b ≡ b
    there k low high b = let e = le-leb 1 k low in let f = le-leb (24 * k) (length bs) high in grind arith

-- so the given lines are counted among the numbers from 1 on
pub givens_are : (bs : List ℕ) (n : ℕ) (ks : List ℕ) → 24 * n ≤ length bs → length ks ≡ n → ((i : ℕ) → i < length ks → get_or ks i 0 ≡ 1 + i)
    → count_by (given_at bs) ks ≡ givens bs n
givens_are bs n ks h l at =
    let same : ks ≡ range_with_len 1 n =
    same_number_lists ks (range_with_len 1 n) (l ∙ sym (length-range_with_len 1 n)) (λ i b. at i b ∙ sym (get_or-range_with_len 1 n i 0 (omega arith))) in
    ap (count_by (given_at bs)) same ∙ counted bs n h

pub room : (bs : List ℕ) (n last : ℕ) → Ended bs n last → 24 * last ≤ length bs
room bs n last e = omega (arith, e.count, div-mul-le_self (length bs - 24) 24)
