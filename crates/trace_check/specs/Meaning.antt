-- What a trace says of valuations.
use Rattle.std.specs.Prelude.{◌≡◌, ℕ, ◌-◌, ◌/◌, ◌≤◌, true, List, length}
use Rattle.clause.specs.Clauses.{makes}
use Rattle.lines.specs.Format.{literals, line_at}

-- v makes each given line true
unfoldable pub Models : List ℕ → ℕ → Type 0
Models bs v =
    (k : ℕ) → 1 ≤ k → k ≤ (length bs - 24) / 24 → (line_at bs k).first ≡ 0 → (line_at bs k).second ≡ 0 → makes v (literals (line_at bs k)) ≡ true

-- no valuation makes all given lines true
abbrev pub Refutes : List ℕ → Type 0
Refutes bs = (v : ℕ) → Models bs v → ⊥
