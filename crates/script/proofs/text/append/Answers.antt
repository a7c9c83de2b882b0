use Rattle.std.proofs.Common.{◌++◌, string_bytes, ap, ◌∙◌, arith}
use Rattle.std.proofs.lemmas.Bool.{ne_eqb}
use Rattle.script.proofs.Spacing.{put_word}
use Rattle.script.proofs.text.append.Goals as goal

pub returns : goal.returns
returns c =
    let pushed = c.in_ok-push.ensures in
    put_word c.push_str-2.result (string_bytes c.args.text.now) (string_bytes c.push.new.self) (string_bytes c.push_str-2.new.self) c.args.word.now c.args.index
    (ne_eqb c.args.index 0 c.if-index-eq0.false)
    (pushed.bytes ∙ ap (λ l. string_bytes c.args.text.now ++ l) (pushed.ascii (omega arith)))
    c.push_str-2.ensures.bytes
