use Rattle.std.proofs.Common.{decimal, length, ap, arith, length-append}
use Rattle.answer.proofs.Wrote.{short}
use Rattle.answer.proofs.text.Text.literal.Goals as goal

pub number-requires : goal.number-requires
number-requires c =
    let n = c.from.ensures in
    omega (arith, short c.from.result (omega arith), ap length c.put.ensures, length-append c.args.self.now c.mark.result.now, c.mark.ensures.bound)

pub returns-clause-bound : goal.returns-clause-bound
returns-clause-bound c =
    let n = c.from.ensures in
    omega (arith, short c.from.result (omega arith), ap length c.put.ensures, length-append c.args.self.now c.mark.result.now, c.mark.ensures.bound, ap length c.number.ensures, length-append c.put.new.self (decimal c.from.result))
