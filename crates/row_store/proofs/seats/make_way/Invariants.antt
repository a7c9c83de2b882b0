use Rattle.std.proofs.Common.{◌≡◌, ℕ, ◌<◌, ◌≤◌, get_or}
use Rattle.row_store.specs.Seats.{moved}
use Rattle.row_store.proofs.seats.make_way.Given as goal

-- The seats passed have moved, and those ahead are as they were.
abbrev pub invariant-loop-seat : goal.invariant-loop-seat
invariant-loop-seat l =
    ((j : ℕ) → j < l.seat-index → get_or l.seat-items j 0 ≡ moved l.at (get_or l.initial.seat-items j 0))
    × ((j : ℕ) → l.seat-index ≤ j → get_or l.seat-items j 0 ≡ get_or l.initial.seat-items j 0)
