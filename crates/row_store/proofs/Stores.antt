-- The invariant of a store, whole.
use Rattle.row_store.specs.declared.ordered.RowStore.{RowStore}
use Rattle.row_store.specs.Seats.{Ordered}

pub ordered : (s : RowStore) → Ordered s.row.slots.now s.seats.now s.row.size s.row.places
ordered s = record {
  within = s.row.within;
  fits = s.row.fits;
  benches = s.benches;
  few = s.few;
  rising = s.row.ascends;
  seated = s.seated;
  named = s.named;
  counted = s.counted;
  returned = s.returned;
}
