use Rattle.std.proofs.Common.{◌≤◌}
use Rattle.store_table.proofs.Table.perform.Given as goal

abbrev pub invariant-loop-i : goal.invariant-loop-i
invariant-loop-i g l = l.right ≤ l.i-counter
