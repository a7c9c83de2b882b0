use Rattle.std.proofs.Common.{arith}
use Rattle.skip_store.proofs.Walks.{lacks, held_or_not}
use Rattle.skip_store.proofs.skips.SkipStore.held_after.Goals as goal

pub returns-in_err-k : goal.returns-in_err-k
returns-in_err-k c = rw c.from_residual.ensures (lacks _ _ _ _ 0 (omega arith) c.requires c.in_err-k.ensures (λ p. absurd (omega arith)))

pub returns : goal.returns
returns c =
    let o = c.order.ensures in
    rw (c.then_some.ensures, c.is_eq.ensures) (held_or_not _ _ _ _ _ _ c.requires c.in_ok-k.ensures o.value o.spots)
