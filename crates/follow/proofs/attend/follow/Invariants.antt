use Rattle.std.proofs.Common.{length}
use Rattle.follow.proofs.attend.follow.Given as goal

abbrev pub decreases-loop-line : goal.decreases-loop-line
decreases-loop-line l = length l.rest
