use Rattle.std.proofs.Common.{ℕ, List, Result, sym, subst}
use Rattle.clause.specs.Refusals.{Told, answer}
use Rattle.trace_check.specs.Checks.{Outcome, judgement}
use Rattle.trace_check.proofs.Knowing.{stands_out}
use Rattle.trace_check.proofs.Outcomes.{outcome, exact, whole_refutes}
use Rattle.trace_check.proofs.Uniques.{one_outcome}
use Rattle.trace_check.proofs.judge.judge_trace.Goals as goal

ended : (c : goal.After-judge) → Outcome c.args.trace.now (answer c.judge.result)
ended c =
    let d = c.taken_whole.result.check in
    let o : Outcome d.claim.trace.now (judgement d.claim.last d.taken d.fault) =
    outcome d.claim.trace.now d.claim.atoms d.claim.last d.taken d.fault d.within c.taken_whole.ensures.done (stands_out d.claim.trace.now d.claim.atoms d.claim.last d.taken d.fault d.stands) in
    let P : List ℕ → Type 0 = λ bs. Outcome bs (answer c.judge.result) in
    let Q : Result (Unit {0}) Told → Type 0 = λ r. Outcome d.claim.trace.now r in
    subst P c.taken_whole.ensures.bytes (subst Q (sym c.judge.ensures.value) o)

pub returns : goal.returns
returns c =
    let o = ended c in
    record { exact = exact c.args.trace.now c.judge.result o; outcome = o; only = λ a p. one_outcome c.args.trace.now a (answer c.judge.result) p o; refutes = whole_refutes c.args.trace.now c.judge.result o }
