-- The trace depends on the marks of the entries alone.
use Rattle.std.proofs.Common.{◌≡◌, ℕ, List, length, ap, ◌∙◌, arith}
use Rattle.store.specs.declared.entry.Entry.{Entry}
use Rattle.trace.specs.Marks.{marked, marks_of}
use Rattle.trace.specs.Lines.{chosen, trace_lines, trace_of, trace}
use Rattle.trace.specs.Calls.{over}
use Rattle.trace.proofs.Computed.{length_marks, marked_over}
use Rattle.trace.proofs.Numbering.{order_same}

pub trace_same : (n : ℕ) (es : List Entry) (r c : ℕ) (old new : List ℕ) → new ≡ over (marks_of es r c) old → trace_of n (trace_lines es (chosen new es) r c) ≡ trace n es r c
unfolding trace
trace_same n es r c old new e =
    let ms = marks_of es r c in
    let l = length_marks es r c in
    ap (λ (ks : List ℕ). trace_of n (trace_lines es ks r c))
    (ap (λ (x : List ℕ). chosen x es) e ∙ order_same (marked (over ms old)) (marked ms) (length es) (λ j h. marked_over ms old j (omega arith)))
