use Rattle.std.proofs.Common.{◌-◌, ◌^◌}
use Rattle.skip_store.specs.Links.{spot}
use Rattle.skip_store.proofs.Walks.{TrueTo}
use Rattle.skip_store.proofs.skips.SkipStoreClauseStore.least_false.Given as goal

abbrev pub invariant-loop-k : goal.invariant-loop-k
invariant-loop-k l = TrueTo l.self.records.now l.self.size 0 l.valuation l.last

abbrev pub decreases-loop-k : goal.decreases-loop-k
decreases-loop-k l = 4 ^ 64 - spot l.self.records.now l.last
