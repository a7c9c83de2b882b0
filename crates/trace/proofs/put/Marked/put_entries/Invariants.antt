use Rattle.std.proofs.Common.{length}
use Rattle.trace.specs.Marks.{marked}
use Rattle.trace.specs.Lines.{order}
use Rattle.trace.proofs.Writing.{Done}
use Rattle.trace.proofs.put.Marked.put_entries.Given as goal

abbrev pub invariant-loop-i : goal.invariant-loop-i
invariant-loop-i g l =
    Done (marked l.self.marks.now) (g.S.ClauseStore.held l.self.session.now.store.now).entries
    (order (marked l.self.marks.now) (length (g.S.ClauseStore.held l.self.session.now.store.now).entries)) l.initial.buffer l.i l.lines l.given l.buffer
