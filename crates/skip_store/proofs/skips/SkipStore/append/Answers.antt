use Rattle.skip_store.proofs.Growth.{grown}
use Rattle.skip_store.proofs.Props.{in_order}
use Rattle.skip_store.proofs.skips.SkipStore.append.Goals as goal

pub invariant_of-self : goal.invariant_of-self
invariant_of-self c =
    let w = grown _ _ _ _ _ (in_order c.args.self.now) c.args.entry c.args.before.now c.requires.free c.requires.preds c.requires.new _ _ c.join.ensures.joins in
    record { within = w.within; fits = w.fits; room = w.room; few = w.few; tall = w.tall; apart = w.apart; linked = w.linked }
