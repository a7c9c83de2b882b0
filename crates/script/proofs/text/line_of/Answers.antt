use Rattle.std.proofs.Common.{sym, ◌∙◌}
use Rattle.std.proofs.lemmas.Bool.{eqb-true, eqb-false}
use Rattle.script.proofs.Scripting.{no_word, some_word}
use Rattle.script.proofs.text.line_of.Goals as goal

pub returns-then-is_empty : goal.returns-then-is_empty
returns-then-is_empty c = no_word (λ x. x.now) c.args.number c.args.words.now (eqb-true _ 0 (sym c.is_empty.ensures ∙ c.if-is_empty.true))

pub returns : goal.returns
returns c =
    some_word (λ x. x.now) c.args.number c.args.words.now _ _ (eqb-false _ 0 (sym c.is_empty.ensures ∙ c.if-is_empty.false)) c.in_ok-call.ensures c.in_ok-request.ensures
