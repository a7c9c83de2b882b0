use Rattle.std.proofs.Common.{◌≡◌}
use Rattle.trace_check.proofs.Outcomes.{left}
use Rattle.trace_check.proofs.judge.taken_whole.Given as goal

abbrev pub invariant-loop-check : goal.invariant-loop-check
invariant-loop-check l = l.check.claim.trace.now ≡ l.trace

abbrev pub decreases-loop-check : goal.decreases-loop-check
decreases-loop-check l = left l.check.claim.last l.check.taken l.check.fault
