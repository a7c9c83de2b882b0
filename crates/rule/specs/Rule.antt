-- The resolution rule, by atoms.
use Rattle.std.specs.Prelude.{◌≡◌, ℕ, ◌<◌, ◌≤◌, true, not, ◌&&◌, ◌||◌, ◌⊎◌, ◌↔◌, List, ◌==◌}
use Rattle.clause.specs.Words.{at}
use Rattle.clause.specs.Clauses.{Literals, Shares, top}
use Rattle.lines.specs.declared.line.Line.{Line}
use Rattle.lines.specs.Format.{literals, line_at, reaches}

-- p is the one atom that is positive in r and negative in c
pub record Cancels (r c : Literals) (p : ℕ) : Type 0 where
  pub positive : at r.pos p ≡ true
  pub negative : at c.neg p ≡ true
  pub alone : (a : ℕ) → at r.pos a ≡ true → at c.neg a ≡ true → a ≡ p

-- d is r and c joined, without the atom p
pub record Joined (r c : Literals) (p : ℕ) (d : Literals) : Type 0 where
  pub positives : (a : ℕ) → at d.pos a ≡ (at r.pos a || at c.pos a) && not (a == p)
  pub negatives : (a : ℕ) → at d.neg a ≡ (at r.neg a || at c.neg a) && not (a == p)

-- a line without a literal
abbrev pub Empty : Line → Type 0
Empty l = top (literals l) ≡ 0

-- both numbers are 0, and the line is not empty
abbrev pub Given : Line → Type 0
Given l = (l.first ≡ 0) × (l.second ≡ 0) × (Empty l → ⊥)

-- j is the number of a line before line k
abbrev pub Earlier : ℕ → ℕ → Type 0
Earlier k j = (1 ≤ j) × (j < k)

-- just one atom is positive in the line `first` and negative in the line `second`, both before line k, and l is the two joined without it
pub record Derived (bs : List ℕ) (k : ℕ) (l : Line) : Type 0 where
  pub first : Earlier k l.first
  pub second : Earlier k l.second
  pub atom : ℕ
  pub cancels : Cancels (literals (line_at bs l.first)) (literals (line_at bs l.second)) atom
  pub joins : Joined (literals (line_at bs l.first)) (literals (line_at bs l.second)) atom (literals l)

-- line k is there and right, over the atoms 1 to n: no atom stands in both signs, none is above n, it is given or derived, and it is empty just if it is the last
pub record Right (bs : List ℕ) (n last k : ℕ) : Type 0 where
  pub there : reaches bs k ≡ true
  pub apart : Shares (line_at bs k).positive (line_at bs k).negative → ⊥
  pub within : top (literals (line_at bs k)) ≤ n
  pub from : Given (line_at bs k) ⊎ Derived bs k (line_at bs k)
  pub ends : Empty (line_at bs k) ↔ (k ≡ last)
