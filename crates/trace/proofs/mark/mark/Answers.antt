use Rattle.std.proofs.Common.{◌-◌, get_or, arith}
use Rattle.trace.proofs.Computed.{marks_are}
use Rattle.trace.proofs.Marking.{started, went_on, passed, law_last, marks_same, marks_trans, is_on, is_off}
use Rattle.trace.proofs.mark.mark.Goals as goal

pub loop-i-init : goal.loop-i-init
loop-i-init g c =
    let es = (g.S.ClauseStore.held c.args.session.now.store.now).entries in
    let p = started es c.args.last.first c.args.last.second c.count-size.result c.from.result c.from-2.result
    c.args.marks.now c.clear.new.marks c.note.new.marks c.note-2.new.marks
    c.from.ensures c.from-2.ensures c.count-size.ensures.value (omega arith)
    c.clear.ensures.long c.clear.ensures.none c.clear.ensures.rest c.note.ensures c.note-2.ensures in
    (marks_same _ _ p.0.bits, p.1)

pub loop-i-preserved-then-is_marked : goal.loop-i-preserved-then-is_marked
loop-i-preserved-then-is_marked g c =
    went_on (g.S.ClauseStore.held c.args.session.now.store.now).entries c.args.last.first c.args.last.second c.note-2.new.marks c.loop-i.marks
    c.note-then-is_marked.new.marks c.note-then-is_marked-2.new.marks c.loop-i.i c.held_line-line.result
    (omega arith) (omega arith) (omega arith) c.held_line-line.ensures
    (is_on (get_or c.loop-i.marks (c.loop-i.i - 1) 0) c.is_marked.result c.is_marked.ensures c.if-is_marked.true)
    c.note-then-is_marked.ensures c.note-then-is_marked-2.ensures c.loop-i.invariant

pub loop-i-preserved : goal.loop-i-preserved
loop-i-preserved g c =
    passed (g.S.ClauseStore.held c.args.session.now.store.now).entries c.args.last.first c.args.last.second c.note-2.new.marks c.loop-i.marks c.loop-i.i
    (omega arith) (is_off (get_or c.loop-i.marks (c.loop-i.i - 1) 0) c.is_marked.result c.is_marked.ensures c.if-is_marked.false) c.loop-i.invariant

pub returns : goal.returns
returns g c =
    let es = (g.S.ClauseStore.held c.args.session.now.store.now).entries in
    let p = started es c.args.last.first c.args.last.second c.count-size.result c.from.result c.from-2.result
    c.args.marks.now c.clear.new.marks c.note.new.marks c.note-2.new.marks
    c.from.ensures c.from-2.ensures c.count-size.ensures.value (omega arith)
    c.clear.ensures.long c.clear.ensures.none c.clear.ensures.rest c.note.ensures c.note-2.ensures in
    marks_are es c.args.last.first c.args.last.second c.args.marks.now c.loop-i.marks c.requires
    (marks_trans _ _ _ _ p.0 c.loop-i.invariant.0) (law_last es c.args.last.first c.args.last.second _ c.loop-i.i (omega arith) c.loop-i.invariant.1)
