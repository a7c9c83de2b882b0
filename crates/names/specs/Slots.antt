-- The records of a table in the order of their names, and the names in order of first use.
use Rattle.std.specs.Prelude.{◌≡◌, ℕ, zero, suc, ◌<◌, ◌≤◌, cond, List, [], ◌∷◌, ◌++◌, length, get_or, take, replicate, ◌==◌, ◌≢◌, slice_index_or, refl}
use Rattle.std.proofs.Common.{lit≤}
use Rattle.names.specs.Bytes.{rank}
use Rattle.names.specs.Names.{spelled}
use Rattle.names.specs.Tables.{Table}
use Rattle.names.specs.declared.name.Name.{Name}
use Rattle.names.specs.declared.slot.NameSlot.{NameSlot}

-- the name "!", the first in the order
abbrev pub first : Name
first = record { bytes = 0x21 ∷ replicate 15 0; len = 1; full = refl; short = lit≤ tt; good = refl; padded = refl }

-- a record that holds no atom
abbrev pub vacant : NameSlot
vacant = record { name = first; atom = 0 }

-- where a record stands in the order of names
abbrev pub place : NameSlot → ℕ
place x = rank (spelled x.name)

-- the first of the records xs that has the atom k
unfoldable pub holder : ℕ → List NameSlot → NameSlot
holder k [] = vacant
holder k (x ∷ xs) = cond (x.atom == k) x (holder k xs)

-- the names of the atoms 1 to k in the records xs
unfoldable pub names_to : ℕ → List NameSlot → List (List ℕ)
names_to zero xs = []
names_to (suc k) xs = names_to k xs ++ (spelled (holder (suc k) xs).name ∷ [])

-- what the first n of xs and p places stand for
abbrev pub table_of : List NameSlot → ℕ → ℕ → Table
table_of xs n p = record { names = names_to n (take n xs); places = p }

-- each of the first n records has one of the atoms 1 to n
abbrev pub Counted : List NameSlot → ℕ → Type 0
Counted xs n = (i : ℕ) → i < n → (0 < (get_or xs i vacant).atom) × ((get_or xs i vacant).atom ≤ n)

-- each of the atoms 1 to n has a record
abbrev pub Seated : List NameSlot → ℕ → Type 0
Seated xs n = (k : ℕ) → k < n → (holder (suc k) (take n xs)).atom ≡ suc k

-- which is the only one with that atom: the first one has the same name
abbrev pub Single : List NameSlot → ℕ → Type 0
Single xs n = (i : ℕ) → i < n → place (holder (get_or xs i vacant).atom (take n xs)) ≡ place (slice_index_or xs i vacant)

-- none of the first n of xs has the atom k
abbrev pub Absent : List NameSlot → ℕ → ℕ → Type 0
Absent xs n k = (i : ℕ) → i < n → (get_or xs i vacant).atom ≢ k

-- the record at i has the atom k
abbrev pub HasAtom : List NameSlot → ℕ → ℕ → Type 0
HasAtom xs i k = (i < length xs) × ((get_or xs i vacant).atom ≡ k)
