use Rattle.std.proofs.Common.{ap, ◌∙◌, eqb, ◌≡◌, ℕ, ◌+◌, true, false, length, subst, arith}
use Rattle.std.proofs.lemmas.List.{length-take-le, get_or-take}
use Rattle.trace.specs.Marks.{marked}
use Rattle.trace.specs.Lines.{chosen}
use Rattle.trace.proofs.Marking.{mark_test}
use Rattle.trace.proofs.Writing.{Done, done_none, done_off, done_on, moved}
use Rattle.trace.proofs.put.Marked.put_entries.Goals as goal
use Rattle.trace.proofs.put.Marked.put_entries.Goals.{then-is_marked, else-is_marked}

pub loop-i-init : goal.loop-i-init
loop-i-init g c =
    let es = (g.S.ClauseStore.held c.args.self.now.session.now.store.now).entries in
    let ms = c.args.self.now.marks.now in
    done_none (marked ms) es (chosen ms es) c.args.buffer.now

pub loop-i-preserved : goal.loop-i-preserved
loop-i-preserved g c =
    let es = (g.S.ClauseStore.held c.args.self.now.session.now.store.now).entries in
    let ms = c.args.self.now.marks.now in
    let m = marked ms in
    let ks = chosen ms es in
    let o = c.args.buffer.now in
    let i = c.loop-i.i in
    let n = c.loop-i.lines in
    let v = c.loop-i.given in
    let b = c.loop-i.buffer in
    let long = length-take-le c.count.result ms (omega arith) in
    let read = get_or-take c.count.result ms i 0 (omega arith) in
    elim c.if-is_marked.branch [
      | then-is_marked w ↦ moved m es ks o (i + 1) (n + 1) c.if-is_marked.lines (v + w.given_of-given.result) c.if-is_marked.given w.put_line.new.out c.if-is_marked.buffer
          w.lines-is w.given-is w.buffer-is
          (done_on m es ks o c.args.table.now i n v w.given_of-given.result b w.put_line.new.out w.held_line.result w.renumber-line.result
          (mark_test ms i c.is_marked.result true (c.is_marked.ensures ∙ ap (λ (x : ℕ). eqb x 1) read) w.if-is_marked.true) c.requires.1 w.held_line.ensures w.renumber-line.ensures
          (omega (arith, c.loop-i.invariant.few)) w.put_line.ensures.after w.given_of-given.ensures c.loop-i.invariant)
      | else-is_marked w ↦ moved m es ks o (i + 1) n c.if-is_marked.lines v c.if-is_marked.given b c.if-is_marked.buffer w.lines-is w.given-is w.buffer-is
          (done_off m es ks o i n v b (mark_test ms i c.is_marked.result false (c.is_marked.ensures ∙ ap (λ (x : ℕ). eqb x 1) read) w.if-is_marked.false) c.loop-i.invariant)
    ]

pub returns : goal.returns
returns g c =
    let es = (g.S.ClauseStore.held c.args.self.now.session.now.store.now).entries in
    let ms = c.args.self.now.marks.now in
    let long = length-take-le c.count.result c.args.self.now.marks.now (omega arith) in
    let e : c.loop-i.i ≡ length es = omega arith in
    let d = subst (λ (i : ℕ). Done (marked ms) es (chosen ms es) c.args.buffer.now i c.loop-i.lines c.loop-i.given c.loop-i.buffer) e c.loop-i.invariant in
    record { wrote = d.wrote; lines = d.counted; given = d.gave; few = (d.few, d.fewer) }
