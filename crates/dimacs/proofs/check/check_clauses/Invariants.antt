use Rattle.std.proofs.Common.{◌≡◌}
use Rattle.dimacs.specs.Reading.{left}
use Rattle.dimacs.specs.Walk.{walk}
use Rattle.dimacs.proofs.check.check_clauses.Given as goal

abbrev pub invariant-loop-word : goal.invariant-loop-word
invariant-loop-word l =
    (walk l.end l.initial.scan (left l.initial.word-iterator)).fault ≡ (walk l.end l.scan (left l.word-iterator)).fault
