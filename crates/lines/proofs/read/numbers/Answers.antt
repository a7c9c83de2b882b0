use Rattle.lines.specs.Format.{trailer_of}
use Rattle.lines.proofs.Parts.{half_read}
use Rattle.lines.proofs.read.numbers.Goals as goal

pub returns : goal.returns
unfolding trailer_of
returns c =
    let bs = c.args.part.now in
    λ i. record {
      atoms = half_read bs 4 c.bytes.ensures c.from_be_bytes.ensures i;
      distance = half_read bs 8 c.bytes-2.ensures c.from_be_bytes-2.ensures i;
      last = half_read bs 12 c.bytes-3.ensures c.from_be_bytes-3.ensures i;
      given = half_read bs 16 c.bytes-4.ensures c.from_be_bytes-4.ensures i;
    }
