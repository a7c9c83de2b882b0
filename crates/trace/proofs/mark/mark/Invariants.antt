use Rattle.std.proofs.Common.{length}
use Rattle.trace.specs.Marks.{marked}
use Rattle.trace.proofs.Marking.{Marks, Law}
use Rattle.trace.proofs.mark.mark.Given as goal

abbrev pub invariant-loop-i : goal.invariant-loop-i
invariant-loop-i g l =
    Marks (length (g.S.ClauseStore.held l.session.store.now).entries) l.initial.marks l.marks
    × Law (g.S.ClauseStore.held l.session.store.now).entries l.fn.last.first l.fn.last.second (marked l.marks) l.i
