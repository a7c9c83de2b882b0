use Rattle.std.proofs.Common.{refl, arith, Some, None}
use Rattle.skip_store.proofs.Levels.{on_lowest}
use Rattle.skip_store.proofs.Meaning.{least_false_is}
use Rattle.skip_store.proofs.Props.{in_order}
use Rattle.skip_store.proofs.Spots.{spot_most}
use Rattle.skip_store.proofs.Walks.{none_false, first_false, true_more}
use Rattle.skip_store.proofs.skips.SkipStoreClauseStore.least_false.Goals as goal

pub follower-requires-clause-level : goal.follower-requires-clause-level
follower-requires-clause-level c = (omega arith, on_lowest _)

pub returns-then-fails : goal.returns-then-fails
returns-then-fails c =
    let f = c.in-Some.ensures in
    least_false_is _ _ _ _ _ (in_order c.args.self.now) c.args.valuation (Some c.in-Some.k)
    (first_false _ _ _ _ _ _ c.args.self.now.apart c.loop-k.invariant f.1 f.0 c.if-fails.ensures)

pub loop-k-smaller : goal.loop-k-smaller
loop-k-smaller c =
    let f = c.in-Some.ensures in
    let a = f.1.after f.0 in
    omega (arith, spot_most c.args.self.now.records.now c.in-Some.k)

pub loop-k-preserved : goal.loop-k-preserved
loop-k-preserved c = let f = c.in-Some.ensures in true_more _ _ _ _ _ _ c.args.self.now.apart c.loop-k.invariant f.1 f.0 c.if-fails.ensures

pub returns : goal.returns
returns c =
    least_false_is _ _ _ _ _ (in_order c.args.self.now) c.args.valuation None
    (none_false _ _ _ _ _ 0 c.args.self.now.apart c.loop-k.invariant c.in_default.ensures refl)
