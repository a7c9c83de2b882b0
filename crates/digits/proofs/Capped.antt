-- A number that is cut off at the bound reads on as the number itself would.
use Rattle.std.proofs.Common.{◌≡◌, ℕ, ◌+◌, ◌-◌, ◌*◌, ◌<◌, ◌≤◌, min, true, false, List, [], ◌∷◌, length, get_or, drop, Some, None, sym, ap, ◌∙◌, ⊎_elim, arith}
use native.Mathlib.Nat.{min-eq_left, min-eq_right}
use Rattle.std.specs.Char.{is_ascii_digit}
use Rattle.std.proofs.lemmas.List.{at_drop_more, at_drop_all}
use Rattle.std.proofs.lemmas.Bool.{cases_Bool, cases_lt, cond-true, cond-false}
use Rattle.digits.specs.Digits.{reads, at_most}

module _ (top : ℕ) where
  -- what two numbers past the bound read as is the same
  past : (m n : ℕ) (bs : List ℕ) → top ≤ m → top ≤ n → at_most top (reads m bs) ≡ at_most top (reads n bs)
  past m n [] h k = ap Some (min-eq_right h ∙ sym (min-eq_right k))
  past m n (b ∷ bs) h k = ⊎_elim
      (λ y. ap (at_most top) (cond-true (is_ascii_digit b) _ _ y) ∙ past (m * 10 + (b - 48)) (n * 10 + (b - 48)) bs (omega arith) (omega arith) ∙ sym (ap (at_most top) (cond-true (is_ascii_digit b) _ _ y)))
      (λ n. ap (at_most top) (cond-false (is_ascii_digit b) _ _ n) ∙ sym (ap (at_most top) (cond-false (is_ascii_digit b) _ _ n)))
      (cases_Bool (is_ascii_digit b))

  cut : (n : ℕ) (bs : List ℕ) → at_most top (reads n bs) ≡ at_most top (reads (min n top) bs)
  cut n bs = ⊎_elim
      (λ l. ap (λ m. at_most top (reads m bs)) (sym (min-eq_left (let e : n ≤ top = omega arith in e))))
      (λ g. past n (min n top) bs g (let e : top ≤ min n top = omega (arith, min-eq_right g) in e))
      (cases_lt n top)

  module _ (w : List ℕ) (i n : ℕ) (h : i < length w) where
    pub digit_more : is_ascii_digit (get_or w i 0) ≡ true → (m : ℕ) → m ≡ min (n * 10 + (get_or w i 0 - 48)) top → at_most top (reads n (drop i w)) ≡ at_most top (reads m (drop (i + 1) w))
    digit_more y m e =
        at_drop_more (λ l. at_most top (reads n l)) w i 0 h ∙ ap (at_most top) (cond-true (is_ascii_digit (get_or w i 0)) _ _ y) ∙
        cut (n * 10 + (get_or w i 0 - 48)) (drop (i + 1) w) ∙ ap (λ k. at_most top (reads k (drop (i + 1) w))) (sym e)

    pub no_digit : is_ascii_digit (get_or w i 0) ≡ false → at_most top (reads n (drop i w)) ≡ None
    no_digit y = at_drop_more (λ l. at_most top (reads n l)) w i 0 h ∙ ap (at_most top) (cond-false (is_ascii_digit (get_or w i 0)) _ _ y)

  pub all_read : (w : List ℕ) (i n : ℕ) → length w ≤ i → n ≤ top → at_most top (reads n (drop i w)) ≡ Some n
  all_read w i n h k = at_drop_all (λ l. at_most top (reads n l)) w i h ∙ ap Some (min-eq_left k)
