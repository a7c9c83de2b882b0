use Rattle.std.proofs.Common.{refl, length}
use Rattle.lines.proofs.Parts.{put_mid_wrote}
use Rattle.lines.proofs.write.put.Goals as goal

pub returns : goal.returns
returns c = rw c.copy_from_slice.ensures.after (put_mid_wrote c.args.out.now c.args.at (length c.args.bytes.now) c.args.bytes.now refl)
