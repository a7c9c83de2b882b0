use Rattle.std.proofs.Common.{◌-◌, ◌<◌, ◌≤◌}
use Rattle.skip_store.specs.Links.{spot, spot_of, On}
use Rattle.skip_store.proofs.skips.SkipStore.last_before.Given as goal

abbrev pub invariant-loop-k : goal.invariant-loop-k
invariant-loop-k l = (l.last ≤ l.self.size) × On l.level l.last × (spot l.self.records.now l.last < spot_of l.clause)

abbrev pub decreases-loop-k : goal.decreases-loop-k
decreases-loop-k l = spot_of l.clause - spot l.self.records.now l.last
