use Rattle.skip_store.proofs.Meaning.{found_is}
use Rattle.skip_store.proofs.Props.{in_order}
use Rattle.skip_store.proofs.skips.SkipStoreClauseStore.find.Goals as goal

pub returns : goal.returns
returns c = found_is _ _ _ _ _ (in_order c.args.self.now) c.args.clause.now c.held_after.result c.held_after.ensures
