-- The meaning of a name table, and what its calls answer.
use Rattle.std.specs.Prelude.{◌≡◌, ℕ, zero, suc, ◌+◌, ◌<◌, ◌≤◌, Bool, true, cond, List, [], ◌∷◌, ◌++◌, length, Some, None, Ok, Err, Option, Result, ◌==◌, ◌≢◌, slice_index_or}
use Rattle.std.specs.List.{slice_get}
use Rattle.std.specs.Str.{bytes_eq}
use Rattle.clause.specs.Refusals.{Told, refused}
use Rattle.names.specs.Bytes.{is_name}

-- what a table stands for: its names in order of first use, and its count of places
pub record Table : Type 0 where
  pub names : List (List ℕ)
  pub places : ℕ

-- the name of the atom k, from 1
abbrev pub name_at : Table → ℕ → Option (List ℕ)
name_at t zero = None
name_at t (suc k) = slice_get t.names k

-- the atom of the first of vs that is w, where the first of vs has the atom k
unfoldable pub find_from : ℕ → List (List ℕ) → List ℕ → Option ℕ
find_from k [] w = None
find_from k (v ∷ vs) w = cond (bytes_eq v w) (Some k) (find_from (k + 1) vs w)

-- the atom of w
abbrev pub atom_of : Table → List ℕ → Option ℕ
atom_of t w = find_from 1 t.names w

-- no place is free
abbrev pub full : Table → Bool
full t = length t.names == t.places

-- one name more
abbrev pub joined : Table → List ℕ → Table
joined t w = record { names = t.names ++ (w ∷ []); places = t.places }

-- the answer to a name by the atom that it has: that one, or the next one
abbrev pub name_answer : Table → Option ℕ → Result ℕ Told
name_answer t (Some k) = Ok k
name_answer t None = cond (full t) (Err (refused 20 0)) (Ok (length t.names + 1))

-- the answer to the word w
abbrev pub word_answer : Table → List ℕ → Result ℕ Told
word_answer t w = cond (is_name w) (name_answer t (atom_of t w)) (Err (refused 19 0))

-- the table after the name w by the atom that it has
abbrev pub after_name : Table → List ℕ → Option ℕ → Table
after_name t w (Some k) = t
after_name t w None = cond (full t) t (joined t w)

-- the table after the word w: only a new name that finds a place alters it
abbrev pub after_word : Table → List ℕ → Table
after_word t w = cond (is_name w) (after_name t w (atom_of t w)) t

-- what every table keeps: names within the places, at most 64 of them, each of them a name, and none twice
pub record Kept (t : Table) : Type 0 where
  pub within : length t.names ≤ t.places
  pub few : t.places ≤ 64
  pub good : (k : ℕ) → k < length t.names → is_name (slice_index_or t.names k []) ≡ true
  pub single : (i j : ℕ) → i < j → j < length t.names → slice_index_or t.names i [] ≢ slice_index_or t.names j []
