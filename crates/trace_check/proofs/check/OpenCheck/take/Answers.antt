use Rattle.std.proofs.Common.{arith}
use Rattle.std.proofs.lemmas.Bool.Decides.{not_from_Decides}
use Rattle.trace_check.proofs.Knowing.{stands_more, stands_wrong}
use Rattle.trace_check.proofs.check.OpenCheck.take.Goals as goal

pub invariant_of-self : goal.invariant_of-self
invariant_of-self c =
    let s = c.args.self.now in
    record {
      within = omega arith;
      stands = stands_more s.claim.trace.now s.claim.atoms s.claim.last s.taken s.fault c.in_default.is (c.next_is_right.ensures.0 c.if-next_is_right.true) s.stands;
    }

pub invariant_of-self-else-next_is_right : goal.invariant_of-self-else-next_is_right
invariant_of-self-else-next_is_right c =
    let s = c.args.self.now in
    record {
      within = s.within;
      stands = stands_wrong s.claim.trace.now s.claim.atoms s.claim.last s.taken s.fault c.in_default.is c.if-self.false
          (not_from_Decides c.next_is_right.result c.next_is_right.ensures c.if-next_is_right.false) s.stands;
    }
