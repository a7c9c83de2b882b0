use Rattle.std.proofs.Common.{refl, sym, ◌∙◌}
use Rattle.lines.proofs.Parts.{eight, four, over, line_written}
use Rattle.lines.proofs.write.line_bytes.Goals as goal

pub returns : goal.returns
returns c =
    let l = c.args.line in
    let b1 = over 0 refl (c.to_be_bytes.ensures ∙ sym (eight l.positive)) c.put.ensures in
    let b2 = over 8 b1 (c.to_be_bytes-2.ensures ∙ sym (eight l.negative)) c.put-2.ensures in
    let b3 = over 16 b2 (c.to_be_bytes-3.ensures ∙ sym (four l.first)) c.put-3.ensures in
    over 20 b3 (c.to_be_bytes-4.ensures ∙ sym (four l.second)) c.put-4.ensures ∙ line_written l
