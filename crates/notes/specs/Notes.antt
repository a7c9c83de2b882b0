-- The printed lines that are no items of a session.
use Rattle.std.specs.Prelude.{ℕ, List, ◌++◌, codes, decimal}

-- of line n that is no request
abbrev pub not_understood : ℕ → List ℕ
not_understood n = codes "line " ++ (decimal n ++ codes ": not understood")

-- of the request at line n before any session is opened
abbrev pub no_session : ℕ → List ℕ
no_session n = codes "line " ++ (decimal n ++ codes ": no session")

abbrev pub stores_differ : List ℕ
stores_differ = codes "stores differ"

-- the atom of a name
abbrev pub atom_text : ℕ → List ℕ
atom_text k = codes "atom " ++ decimal k
