use Rattle.std.proofs.Common.{◌≡◌, length}
use Rattle.dimacs.specs.Reading.{left}
use Rattle.dimacs.specs.ToCome.{to_come}
use Rattle.dimacs.proofs.clauses.Clauses.next_clause.Given as goal

abbrev pub invariant-loop-word : goal.invariant-loop-word
invariant-loop-word l = to_come l.initial.self ≡ to_come l.self

abbrev pub decreases-loop-word : goal.decreases-loop-word
decreases-loop-word l = length (left l.self.reader)
