use Rattle.std.proofs.Common.{◌≡◌, ℕ, ◌+◌, ◌<◌, ◌^◌, Bool, drop}
use Rattle.std.specs.List.{prefix_len}
use Rattle.dimacs.proofs.runs.run_length.Given as goal

abbrev pub invariant-loop-i : goal.invariant-loop-i
invariant-loop-i g l = (p : ℕ → Bool) → ((b : ℕ) (r : Bool) → b < 2 ^ 8 → goal.F-post g l.test b r → r ≡ p b) → prefix_len p l.bytes ≡ l.i + prefix_len p (drop l.i l.bytes)
