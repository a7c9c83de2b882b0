use Rattle.std.proofs.Common.{[], ◌∷◌, decimal, length, ap, arith, length-append}
use Rattle.answer.proofs.Wrote.{field_length}
use Rattle.answer.proofs.text.Text.field.Goals as goal

pub number-requires : goal.number-requires
number-requires c = omega (arith, field_length c.args.n (omega arith), ap length c.put.ensures, length-append c.args.self.now (32 ∷ []))

pub returns-clause-bound : goal.returns-clause-bound
returns-clause-bound c =
    omega (arith, field_length c.args.n (omega arith), ap length c.put.ensures, length-append c.args.self.now (32 ∷ []), ap length c.number.ensures, length-append c.put.new.self (decimal c.args.n))
