use Rattle.std.proofs.Common.{◌≡◌, ◌+◌, ◌-◌, refl, ◌∙◌, subst, arith, length-set}
use Rattle.skip_store.specs.Links.{spot, spot_of, On, Prev}
use Rattle.skip_store.proofs.Levels.{on_head, on_lower}
use Rattle.skip_store.proofs.Spots.{spot_head, preds_more}
use Rattle.skip_store.proofs.skips.SkipStore.all_before.Goals as goal

pub loop-level-init : goal.loop-level-init
loop-level-init c = (omega arith, on_head 15, omega (arith, spot_head c.args.self.now.records.now), refl, λ m a b. absurd (omega arith))

pub last_before-last-requires-clause-on : goal.last_before-last-requires-clause-on
last_before-last-requires-clause-on c =
    let e : c.loop-level.level ≡ c.loop-level.level - 1 + 1 = omega arith in
    on_lower (c.loop-level.level - 1) c.loop-level.last (subst (λ x. On x c.loop-level.last) e c.loop-level.invariant.1)

pub loop-level-preserved : goal.loop-level-preserved
loop-level-preserved c =
    let i = c.loop-level.invariant in
    let r = c.last_before-last.ensures in (
      r.within,
      r.level,
      r.before,
      length-set _ _ _ ∙ i.3,
      preds_more (λ m j. Prev (spot c.args.self.now.records.now) c.args.self.now.size m (spot_of c.args.clause.now) j)
          c.loop-level.before c.loop-level.level c.last_before-last.result (omega arith) (omega arith) i.3 r i.4,
    )
