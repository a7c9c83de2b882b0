use Rattle.std.proofs.Common.{◌<◌, ◌≡◌, length, ◌∙◌, arith}
use Rattle.std.proofs.lemmas.List.{get_or-take}
use Rattle.skip_store.proofs.Levels.{on_from_trailing}
use Rattle.skip_store.proofs.Joining.{turned}
use Rattle.skip_store.proofs.links.Links.join.Goals as goal

pub set-requires-clause-level : goal.set-requires-clause-level
set-requires-clause-level c = (omega arith, on_from_trailing 16 c.args.k c.loop-level.level (omega arith))

pub loop-level-preserved : goal.loop-level-preserved
loop-level-preserved c =
    let v : c.loop-level.level < 15 = omega arith in
    let q = get_or-take c.levels.result c.args.before.now c.loop-level.level 0 (omega arith) in
    let tall : length c.args.self.now.head ≡ 15 = omega arith in
    let s = c.set.ensures in
    let t = c.set-in-loop-level.ensures in (
      turned _ _ _ _ _ _ c.loop-level.level _ c.loop-level.invariant.0 tall c.requires.room v
          (on_from_trailing 16 c.args.k c.loop-level.level (omega arith)) c.requires.before (rw q at c.of-next.ensures)
          (λ l b. on_from_trailing 16 c.args.k l (omega arith)) _ _ _ _ s.head s.lent (rw q at t.head) (rw q at t.lent),
      t.lender ∙ s.lender ∙ c.loop-level.invariant.1,
    )
