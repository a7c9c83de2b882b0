use Rattle.std.proofs.Common.{◌≡◌, drop}
use Rattle.clause.specs.Reading.{reads, clear}
use Rattle.clause.proofs.words.Clause.of_literals.Given as goal

abbrev pub invariant-loop-i : goal.invariant-loop-i
invariant-loop-i l = reads l.atoms l.i l.clause (drop l.i l.literals) ≡ reads l.atoms 0 clear l.literals
