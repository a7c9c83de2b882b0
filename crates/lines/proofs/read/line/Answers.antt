use Rattle.lines.specs.Format.{line_of, line_from}
use Rattle.lines.proofs.Parts.{word_read, half_read}
use Rattle.lines.proofs.read.line.Goals as goal

pub returns : goal.returns
unfolding line_of line_from
returns c =
    let bs = c.args.part.now in
    λ i. record {
      positive = word_read bs 0 c.bytes.ensures c.from_be_bytes.ensures i;
      negative = word_read bs 8 c.bytes-2.ensures c.from_be_bytes-2.ensures i;
      first = half_read bs 16 c.bytes-3.ensures c.from_be_bytes-3.ensures i;
      second = half_read bs 20 c.bytes-4.ensures c.from_be_bytes-4.ensures i;
    }
