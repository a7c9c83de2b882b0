use Rattle.std.proofs.Common.{map, sym, ap, ◌∙◌}
use Rattle.std.proofs.lemmas.Result.{IfOk-weaker}
use Rattle.script.proofs.Scripting.{plain_line}
use Rattle.script.proofs.text.read_line.Goals as goal

pub returns : goal.returns
returns c =
    IfOk-weaker c.line_of.result _ _
    (λ o e. e ∙ plain_line c.args.number c.args.line.now c.trimmed.result.now _ (sym c.if-is_comment.ensures) c.trimmed.ensures (ap (map (λ x. x.now)) c.deref.ensures.value ∙ c.in_ok-words.ensures))
    c.line_of.ensures
