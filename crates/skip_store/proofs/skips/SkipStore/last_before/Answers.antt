use Rattle.std.proofs.Common.{refl, inl}
use Rattle.skip_store.proofs.Theory.{stop}
use Rattle.skip_store.proofs.skips.SkipStore.last_before.Goals as goal

pub returns : goal.returns
returns c = let i = c.loop-k.invariant in stop _ _ _ _ _ 0 c.in_default.ensures i.0 i.1 i.2 (inl refl)
