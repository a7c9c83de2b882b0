-- Valuations that make clauses true, and the least of them.
use Rattle.std.specs.Prelude.{◌≡◌, ℕ, ◌^◌, ◌<◌, ◌≤◌, true, false, List, length, ◌≢◌, slice_index_or}
use Rattle.clause.specs.declared.words.Clause.{Clause}
use Rattle.clause.specs.Words.{at}
use Rattle.clause.specs.Clauses.{lits, makes, top}
use Rattle.clause.specs.Reading.{clear}
use Rattle.store.specs.Held.{Held, size, clause_at}

-- v makes every clause of cs true
abbrev pub Makes : ℕ → List Clause → Type 0
Makes v cs = (i : ℕ) → i < length cs → makes v (lits (slice_index_or cs i clear)) ≡ true

-- v makes every held clause true
abbrev pub Models : ℕ → Held → Type 0
Models v h = (i : ℕ) → i < size h → makes v (lits (clause_at h.entries i)) ≡ true

-- no valuation makes every clause of cs true
abbrev pub Hopeless : List Clause → Type 0
Hopeless cs = (v : ℕ) → Makes v cs → ⊥

-- the lowest atom where v and w differ is true in w
pub record Lower (v w : ℕ) : Type 0 where
  pub atom : ℕ
  pub within : atom ≤ 64
  pub off : at v atom ≡ false
  pub on : at w atom ≡ true
  pub alike : (a : ℕ) → a < atom → at v a ≡ at w a

-- v is the least of the valuations that make every clause of cs true
pub record Least (v : ℕ) (cs : List Clause) : Type 0 where
  pub model : Makes v cs
  pub fits : v < 2 ^ 64
  pub lowest : (w : ℕ) → w < 2 ^ 64 → Makes w cs → (v ≢ w) → Lower v w

-- the highest true atom, 0 where none is true
abbrev pub peak : ℕ → ℕ
peak v = top (record { pos = v; neg = 0 })
