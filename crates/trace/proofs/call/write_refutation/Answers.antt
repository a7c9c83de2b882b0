use Rattle.std.proofs.Common.{ℕ, List, length, ap, ◌∙◌}
use Rattle.trace.specs.Calls.{over}
use Rattle.trace.proofs.Whole.{trace_same}
use Rattle.trace.proofs.call.write_refutation.Goals as goal

pub returns : goal.returns
returns g c =
    let es = (g.S.ClauseStore.held c.args.session.now.store.now).entries in
    let same = trace_same c.args.session.now.search.atoms es c.args.last.first c.args.last.second c.args.marks.now c.mark.new.marks c.mark.ensures in
    record {
      bytes = c.put_trace.ensures.bytes ∙ ap (λ (x : List ℕ). over x c.args.buffer.now) same;
      marks = c.mark.ensures;
      count = c.put_trace.ensures.count ∙ ap length same;
    }
