use Rattle.std.proofs.Common.{length, ap, arith}
use Rattle.skip_store.proofs.Fresh.{no_entries}
use Rattle.skip_store.proofs.skips.SkipStore.new.Goals as goal

pub invariant_of-result : goal.invariant_of-result
invariant_of-result c =
    let w = no_entries c.args.records.now c.new.result.head c.new.result.lent.now c.places_in-places.result c.new.ensures.head (omega arith) (omega (arith, ap length c.new.ensures.same)) (omega arith) in
    record { within = w.within; fits = w.fits; room = w.room; few = w.few; tall = w.tall; apart = w.apart; linked = w.linked }
