-- What the meaning of a table says of its answers.
use Rattle.std.specs.Prelude.{◌≡◌, ℕ, ◌≤◌, List, Some, Ok, Err, Option, Result}
use Rattle.clause.specs.Refusals.{Told}
use Rattle.names.specs.Tables.{Table, name_at, atom_of, word_answer, after_word, Kept}

-- r is the atom of w exactly where w is the name of that atom
abbrev pub Inverse : Table → List ℕ → Option ℕ → Type 0
Inverse t w r = (k : ℕ) → (r ≡ Some k → name_at t k ≡ Some w) × (name_at t k ≡ Some w → r ≡ Some k)

abbrev pub InverseLaw : Type 0
InverseLaw = (t : Table) → Kept t → (w : List ℕ) → Inverse t w (atom_of t w)

-- an atom that was given is one of 1 to 64, and w is its name
abbrev pub Given : Table → List ℕ → Result ℕ Told → Type 0
Given t w (Ok k) = (1 ≤ k) × (k ≤ 64) × (name_at t k ≡ Some w)
Given t w (Err d) = Unit

abbrev pub GivenLaw : Type 0
GivenLaw = (t : Table) → Kept t → (w : List ℕ) → Given (after_word t w) w (word_answer t w)

-- an atom keeps its name
abbrev pub StaysLaw : Type 0
StaysLaw = (t : Table) (w v : List ℕ) (k : ℕ) → name_at t k ≡ Some v → name_at (after_word t w) k ≡ Some v

-- a refused word alters nothing
abbrev pub RefusedLaw : Type 0
RefusedLaw = (t : Table) (w : List ℕ) (d : Told) → word_answer t w ≡ Err d → after_word t w ≡ t
