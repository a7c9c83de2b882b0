use Rattle.std.proofs.Common.{sym, ◌∙◌, arith}
use Rattle.digits.proofs.Capped.{digit_more, no_digit, all_read}
use Rattle.digits.proofs.number.Goals as goal

pub returns-then-not-is_ascii_digit : goal.returns-then-not-is_ascii_digit
returns-then-not-is_ascii_digit g c =
    sym (c.loop-b.invariant.1 ∙ no_digit g.row.MOST c.args.digits.now c.loop-b.b-index c.loop-b.n c.loop-b-test.true (sym c.if-not-is_ascii_digit.ensures.value))

pub loop-b-preserved : goal.loop-b-preserved
loop-b-preserved g c = (
  omega arith,
  c.loop-b.invariant.1 ∙
      digit_more g.row.MOST c.args.digits.now c.loop-b.b-index c.loop-b.n c.loop-b-test.true (sym c.if-not-is_ascii_digit.ensures.value)
      c.min-n.result (omega arith),
)

pub returns : goal.returns
returns g c = sym (c.loop-b.invariant.1 ∙ all_read g.row.MOST c.args.digits.now c.loop-b.b-index c.loop-b.n c.loop-b-test.false c.loop-b.invariant.0)
