use Rattle.std.proofs.Common.{◌≡◌, ◌≤◌, drop}
use Rattle.digits.specs.Digits.{reads, at_most}
use Rattle.digits.proofs.number.Given as goal

abbrev pub invariant-loop-b : goal.invariant-loop-b
invariant-loop-b g l = (l.n ≤ g.row.MOST) × (at_most g.row.MOST (reads 0 l.digits) ≡ at_most g.row.MOST (reads l.n (drop l.b-index l.digits)))
