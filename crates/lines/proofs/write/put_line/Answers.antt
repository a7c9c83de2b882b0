use Rattle.std.proofs.Common.{◌*◌, leb, length, arith}
use Rattle.std.proofs.lemmas.Bool.{and_parts, leb-true}
use Rattle.lines.proofs.Back.{line_at_back}
use Rattle.lines.proofs.write.put_line.Goals as goal

pub returns-clause-back : goal.returns-clause-back
returns-clause-back c = λ r.
    let bs = c.args.out.now in
    let k = c.args.k in
    let l = c.args.line in
    let p = and_parts (leb 1 k) (leb (24 * k) (length bs)) r in
    let back = line_at_back bs k l (leb-true 1 k p.0) (leb-true (24 * k) (length bs) p.1) (omega arith) (omega arith) (omega arith) (omega arith) in cc
