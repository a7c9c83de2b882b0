-- What is printed into a buffer.
use Rattle.std.specs.Prelude.{ℕ, zero, suc, ◌+◌, Bool, cond, List, [], ◌∷◌, ◌++◌, length, take, drop, codes, decimal}
use Rattle.clause.specs.Words.{at}

-- a buffer after bytes are written at a place: the bytes before and beyond stay
abbrev pub wrote : List ℕ → ℕ → List ℕ → List ℕ
wrote out place bs = take place out ++ (bs ++ drop (place + length bs) out)

-- a blank and a number
abbrev pub field : ℕ → List ℕ
field n = 32 ∷ decimal n

-- the line of counts: given entries, derivations, settings, and how full the store is
abbrev pub counts_line : ℕ → ℕ → ℕ → ℕ → List ℕ
counts_line given derived set percent = codes "r" ++ field given ++ field derived ++ field set ++ field percent ++ codes "\n"

-- the line of a refused text
abbrev pub fault_line : ℕ → ℕ → List ℕ
fault_line number place = codes "e" ++ field number ++ field place ++ codes "\n"

-- what stands before the number of a literal
abbrev pub mark_of : Bool → List ℕ
mark_of v = cond v (codes " ") (codes " -")

abbrev pub literal_field : ℕ → Bool → List ℕ
literal_field atom v = mark_of v ++ decimal atom

-- the literals of atoms 1 to n, each positive where it stands in the word v
unfoldable pub literals : ℕ → ℕ → List ℕ
literals zero v = []
literals (suc k) v = literals k v ++ literal_field (suc k) (at v (suc k))

abbrev pub values_line : ℕ → ℕ → List ℕ
values_line n v = codes "v" ++ literals n v ++ codes " 0\n"
