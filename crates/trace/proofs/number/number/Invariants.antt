use Rattle.trace.specs.Marks.{marked}
use Rattle.trace.proofs.Numbering.{Numbered}
use Rattle.trace.proofs.number.number.Given as goal

abbrev pub invariant-loop-i : goal.invariant-loop-i
invariant-loop-i l = Numbered (marked l.marks) l.i l.lines l.table
