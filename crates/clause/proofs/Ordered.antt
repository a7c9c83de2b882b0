-- Literals gathered in order of atoms, from atom 1 on.
use Rattle.std.proofs.Common.{◌≡◌, ℕ, zero, suc, ◌+◌, ◌-◌, ◌≤◌, List, [], ◌++◌, ℤ, sym, ap, ◌∙◌, append-nil, arith}
use Rattle.clause.specs.Texts.{in_order}

module _ (f : ℕ → List ℤ) where
  pub none_yet : (ls : List ℤ) → ls ≡ [] → ls ≡ in_order f (1 - 1)
  unfolding in_order
  none_yet ls e = e

  pub step : (a : ℕ) → 1 ≤ a → in_order f (a - 1) ++ f a ≡ in_order f (a + 1 - 1)
  unfolding in_order
  step zero h = absurd (omega arith)
  step (suc k) h =
      let down : suc k - 1 ≡ k = omega arith in
      let up : suc k ≡ suc k + 1 - 1 = omega arith in
      ap (λ n. in_order f n ++ f (suc k)) down ∙ ap (in_order f) up

  pub one_more : (a : ℕ) (ls ks : List ℤ) → 1 ≤ a → ls ≡ in_order f (a - 1) → ks ≡ ls ++ f a → ks ≡ in_order f (a + 1 - 1)
  one_more a ls ks h e p = p ∙ ap (λ l. l ++ f a) e ∙ step a h

  pub skipped : (a : ℕ) (ls : List ℤ) → 1 ≤ a → ls ≡ in_order f (a - 1) → f a ≡ [] → ls ≡ in_order f (a + 1 - 1)
  skipped a ls h e p = one_more a ls ls h e (sym (ap (λ l. ls ++ l) p ∙ append-nil ls))

  pub no_more : (a n : ℕ) (ls : List ℤ) → ls ≡ in_order f (a - 1) → a - 1 ≡ n → ls ≡ in_order f n
  no_more a n ls e p = e ∙ ap (in_order f) p
