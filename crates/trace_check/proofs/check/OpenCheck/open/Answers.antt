use Rattle.std.proofs.Common.{arith}
use Rattle.trace_check.proofs.Knowing.{upto_none}
use Rattle.trace_check.proofs.check.OpenCheck.open.Goals as goal

pub invariant_of-result : goal.invariant_of-result
invariant_of-result c = record { within = omega arith; stands = ∣ c.in_default.ensures ∣₁ }

pub invariant_of-result-2 : goal.invariant_of-result-2
invariant_of-result-2 c =
    let t = c.in-Some.trailer in
    record { within = omega arith; stands = ∣ (c.in-Some.ensures, upto_none c.args.trace.now t.atoms t.last) ∣₁ }
