use Rattle.std.proofs.Common.{refl, sym, ◌∙◌}
use Rattle.lines.proofs.Parts.{four, over, trailer_written}
use Rattle.lines.proofs.write.trailer_bytes.Goals as goal

pub returns : goal.returns
returns c =
    let t = c.args.trailer in
    let b1 = over 0 refl refl c.put.ensures in
    let b2 = over 4 b1 (c.to_be_bytes.ensures ∙ sym (four t.atoms)) c.put-2.ensures in
    let b3 = over 8 b2 (c.to_be_bytes-2.ensures ∙ sym (four t.distance)) c.put-3.ensures in
    let b4 = over 12 b3 (c.to_be_bytes-3.ensures ∙ sym (four t.last)) c.put-4.ensures in
    over 16 b4 (c.to_be_bytes-4.ensures ∙ sym (four t.given)) c.put-5.ensures ∙ trailer_written t
