use Rattle.std.proofs.Common.{Result, sym, subst}
use Rattle.clause.specs.Refusals.{Told, answer}
use Rattle.trace_check.specs.Checks.{Means}
use Rattle.trace_check.proofs.Knowing.{stands_out}
use Rattle.trace_check.proofs.Outcomes.{means, ok_refutes}
use Rattle.trace_check.proofs.check.ClosedCheck.judge.Goals as goal

pub returns : goal.returns
returns c =
    let s = c.args.self.now.check in
    let bs = s.claim.trace.now in
    let P : Result (Unit {0}) Told → Type 0 = λ r. Means bs s.taken r in
    let m : Means bs s.taken (answer c.judgement.result) =
    subst P (sym c.judgement.ensures) (means bs s.claim.atoms s.claim.last s.taken s.fault s.within (stands_out bs s.claim.atoms s.claim.last s.taken s.fault s.stands)) in
    record { value = c.judgement.ensures; means = m; refutes = ok_refutes bs s.taken c.judgement.result m }
