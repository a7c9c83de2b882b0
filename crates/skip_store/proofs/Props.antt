-- The invariant of a store, whole.
use Rattle.skip_store.specs.declared.skips.SkipStore.{SkipStore}
use Rattle.skip_store.specs.Lists.{InOrder}

pub in_order : (s : SkipStore) → InOrder s
in_order s = record {
  within = s.within;
  fits = s.fits;
  room = s.room;
  few = s.few;
  tall = s.tall;
  apart = s.apart;
  linked = s.linked;
}
