use Rattle.std.proofs.Common.{sym, arith}
use Rattle.row_store.specs.Seats.{vacant}
use Rattle.row_store.proofs.Arrivals.{entry_past, entry_read}
use Rattle.row_store.proofs.ordered.RowStoreClauseStore.entry.Goals as goal

pub returns-then-index-count : goal.returns-then-index-count
returns-then-index-count c =
    let s = c.args.self.now in
    sym (entry_past s.row.slots.now s.seats.now s.row.size c.args.number (omega (arith, c.count.ensures, c.in_ok-index.ensures)))

pub returns : goal.returns
returns c =
    let s = c.args.self.now in
    entry_read s.row.slots.now s.seats.now s.row.size c.args.number c.in_ok-index.index c.seat-seat.result c.in_ok-slot.slot c.entry.result
    c.in_ok-index.ensures.0 c.in_ok-index.ensures.1 (omega (arith, c.count.ensures)) c.seat-seat.ensures (c.in_ok-slot.ensures.1 vacant) c.entry.ensures
