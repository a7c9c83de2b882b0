use Rattle.std.proofs.Common.{◌≡◌, Some, ◌∙◌, rules}
use Rattle.std.proofs.lemmas.List.{nil_from_length}
use Rattle.script.specs.declared.request.Request.TheVariants.{Ask}
use Rattle.follow.proofs.Attending.{no_more, stops, performs, passes}
use Rattle.follow.proofs.attend.attend.Goals as goal

pub returns-in-Some-Open-clause-next : goal.returns-in-Some-Open-clause-next
returns-in-Some-Open-clause-next g c =
    (stops _ _ _ _ _ _ _ c.loop-line.invariant.0 c.in-Some.line.now c.in-Some.after.now c.in-Some.ensures.cases.0 (search rules)).0

pub returns-in-Some-Open-clause-calls : goal.returns-in-Some-Open-clause-calls
returns-in-Some-Open-clause-calls g c =
    (stops _ _ _ _ _ _ _ c.loop-line.invariant.0 c.in-Some.line.now c.in-Some.after.now c.in-Some.ensures.cases.0 (search rules)).1

pub loop-line-preserved-in_ok-items-in-Some-Ask : goal.loop-line-preserved-in_ok-items-in-Some-Ask
loop-line-preserved-in_ok-items-in-Some-Ask g c =
    let asked : c.in-Some.line.now.request ≡ Some (Ask c.in-Some-Ask.call) = search rules in (
      performs _ _ _ _ _ _ _ c.loop-line.invariant.0 c.in-Some.line.now c.in-Some.after.now c.in-Some.ensures.cases.0 _ _ _ _ asked c.in_ok-items-in-Some-Ask.ensures.made,
      c.perform.ensures.named ∙ c.loop-line.invariant.1,
    )

pub loop-line-preserved : goal.loop-line-preserved
loop-line-preserved g c = (
  passes _ _ _ _ _ _ _ c.loop-line.invariant.0 c.in-Some.line.now c.in-Some.after.now c.in-Some.ensures.cases.0 c.in-None.is,
  c.loop-line.invariant.1,
)

pub returns-clause-calls : goal.returns-clause-calls
returns-clause-calls g c = (no_more _ _ _ _ _ _ _ c.loop-line.invariant.0 (nil_from_length _ c.in_default.ensures.cases)).1
