use Rattle.std.proofs.Common.{ap, ◌∙◌, eqb, ◌≡◌, ℕ, ◌+◌, true, false, List, set, subst, arith}
use Rattle.std.proofs.lemmas.List.{length-take-le, get_or-take}
use Rattle.trace.specs.Marks.{marked}
use Rattle.trace.specs.Lines.{order}
use Rattle.trace.specs.Tables.{Table}
use Rattle.trace.proofs.Marking.{mark_test}
use Rattle.trace.proofs.Numbering.{Numbered, numbered_none, numbered_on, numbered_off}
use Rattle.trace.proofs.number.number.Goals as goal
use Rattle.trace.proofs.number.number.Goals.{then-is_marked, else-is_marked}

pub loop-i-init : goal.loop-i-init
loop-i-init c = numbered_none (marked c.args.marks.now) c.args.table.now c.requires.1.1.1

pub overflow_add-lines : goal.overflow_add-lines
overflow_add-lines c =
    let long = length-take-le c.args.size c.args.marks.now c.requires.0 in omega (arith, c.loop-i.invariant.few)

pub loop-i-preserved : goal.loop-i-preserved
loop-i-preserved c =
    let ms = c.args.marks.now in
    let long = length-take-le c.args.size ms c.requires.0 in
    let i = c.loop-i.i in
    let read = get_or-take c.args.size ms i 0 (omega arith) in
    let n = c.loop-i.lines in
    let P : ℕ → List ℕ → Type 0 = λ k t. Numbered (marked ms) (i + 1) k t in
    let moved : (k k' : ℕ) (t t' : List ℕ) → k' ≡ k → t' ≡ t → P k t → P k' t' = λ k k' t t' a b p. rw (a, b) p in
    elim c.if-is_marked.branch [
      | then-is_marked w ↦ moved (n + 1) c.if-is_marked.lines (set c.loop-i.table i (n + 1)) c.if-is_marked.table w.lines-is w.table-is
          (numbered_on (marked ms) i n c.loop-i.table (omega arith) (mark_test ms i c.is_marked.result true (c.is_marked.ensures ∙ ap (λ (x : ℕ). eqb x 1) read) w.if-is_marked.true) c.loop-i.invariant)
      | else-is_marked w ↦ moved n c.if-is_marked.lines c.loop-i.table c.if-is_marked.table w.lines-is w.table-is
          (numbered_off (marked ms) i n c.loop-i.table (mark_test ms i c.is_marked.result false (c.is_marked.ensures ∙ ap (λ (x : ℕ). eqb x 1) read) w.if-is_marked.false) c.loop-i.invariant)
    ]

pub returns : goal.returns
returns c =
    let long = length-take-le c.args.size c.args.marks.now c.requires.0 in
    let e : c.loop-i.i ≡ c.args.size = omega arith in
    subst (λ (i : ℕ). Table (order (marked c.args.marks.now) i) c.loop-i.table) e c.loop-i.invariant.numbered
