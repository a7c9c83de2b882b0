use Rattle.std.proofs.Common.{rules, sym, ◌∙◌}
use Rattle.std.proofs.lemmas.Bool.{ltb-false}
use Rattle.clause.specs.Refusals.{told}
use Rattle.answer.proofs.Answers.{sound, faulty, moved, refused}
use Rattle.answer.proofs.call.decide.Goals as goal

pub returns-in_err-heading : goal.returns-in_err-heading
returns-in_err-heading c =
    refused c.from_residual.result c.in_err-heading.field-0.0 _ _ (search rules) (search rules) (faulty c.args.text.now (ltb-false _ _ (sym c.is_too_large.ensures ∙ c.if-is_too_large.false)) (told c.in_err-heading.field-0.0) c.in_err-heading.ensures)

pub returns : goal.returns
returns c = moved c.decide_checked.result _ _ _ (sound c.args.text.now (ltb-false _ _ (sym c.is_too_large.ensures ∙ c.if-is_too_large.false)) c.in_ok-heading.heading c.in_ok-heading.ensures) c.decide_checked.ensures
