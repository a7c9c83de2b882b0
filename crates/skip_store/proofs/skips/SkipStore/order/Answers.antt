use Rattle.std.proofs.Common.{ap}
use Rattle.skip_store.proofs.Walks.{compares}
use Rattle.skip_store.proofs.skips.SkipStore.order.Goals as goal

pub returns-clause-spots : goal.returns-clause-spots
returns-clause-spots c =
    compares c.args.self.now.records.now c.args.k c.args.clause.now c.record.result.clause c.cmp.result c.requires.0 (ap (λ x. x.clause) c.record.ensures) c.cmp.ensures.ranks
