-- The search for the atom that became true, from the highest down.
use Rattle.std.proofs.Common.{◌≡◌, ℕ, zero, suc, ◌-◌, ◌<◌, true, false, not, ◌&&◌, sym, refl, ap, ◌∙◌, arith}
use Rattle.std.proofs.lemmas.Bool.{cond-true, cond-false, and_from, and_left, and_right, not_from_true, not_from_false}
use Rattle.clause.specs.Words.{at}
use Rattle.reply.specs.Actions.{gained_to}

module _ (v w : ℕ) where
  pub found : (a : ℕ) → 0 < a → at w a ≡ true → at v a ≡ false → a ≡ gained_to a v w
  unfolding gained_to
  found zero h t f = absurd (omega arith)
  found (suc k) h t f = sym (cond-true _ _ _ (and_from (at w (suc k)) (not (at v (suc k))) t (not_from_false (at v (suc k)) f)))

  passed : (a : ℕ) → 0 < a → (at w a && not (at v a)) ≡ false → gained_to a v w ≡ gained_to (a - 1) v w
  unfolding gained_to
  passed zero h n = absurd (omega arith)
  passed (suc k) h n = cond-false _ _ _ n ∙ ap (λ m. gained_to m v w) (let e : k ≡ suc k - 1 = omega arith in e)

  pub absent : (a : ℕ) → 0 < a → at w a ≡ false → gained_to a v w ≡ gained_to (a - 1) v w
  absent a h f = passed a h (and_left (at w a) (not (at v a)) f)

  pub old : (a : ℕ) → 0 < a → at v a ≡ true → gained_to a v w ≡ gained_to (a - 1) v w
  old a h t = passed a h (and_right (at w a) (not (at v a)) (not_from_true (at v a) t))

  pub none : (a : ℕ) → a ≡ 0 → 0 ≡ gained_to a v w
  unfolding gained_to
  none zero e = refl
  none (suc k) e = absurd (omega arith)
