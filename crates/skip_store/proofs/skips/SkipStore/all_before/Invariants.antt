use Rattle.std.proofs.Common.{◌≡◌, ℕ, ◌<◌, ◌≤◌, length, get_or}
use Rattle.skip_store.specs.Links.{spot, spot_of, On, Prev}
use Rattle.skip_store.proofs.skips.SkipStore.all_before.Given as goal

-- The predecessors on the levels passed are found.
abbrev pub invariant-loop-level : goal.invariant-loop-level
invariant-loop-level l =
    (l.last ≤ l.self.size) × On l.level l.last × (spot l.self.records.now l.last < spot_of l.clause) × (length l.before ≡ 15)
    × ((m : ℕ) → l.level ≤ m → m < 15 → Prev (spot l.self.records.now) l.self.size m (spot_of l.clause) (get_or l.before m 0))
