-- The words of a line and the lines of a script.
use Rattle.std.specs.Prelude.{ℕ, cond, List, [], ◌∷◌, ◌==◌}
use Rattle.std.specs.List.{join_with_byte}

-- the byte b before the first of the pieces
abbrev pub joins : ℕ → List (List ℕ) → List (List ℕ)
joins b [] = (b ∷ []) ∷ []
joins b (p ∷ ps) = (b ∷ p) ∷ ps

-- the pieces of a text between its bytes c
unfoldable pub pieces : ℕ → List ℕ → List (List ℕ)
pieces c [] = [] ∷ []
pieces c (b ∷ bs) = cond (b == c) ([] ∷ pieces c bs) (joins b (pieces c bs))

-- those that are not empty
unfoldable pub solid : List (List ℕ) → List (List ℕ)
solid [] = []
solid ([] ∷ ps) = solid ps
solid ((b ∷ w) ∷ ps) = (b ∷ w) ∷ solid ps

-- the words of a line lie between its spaces
abbrev pub words : List ℕ → List (List ℕ)
words line = solid (pieces 32 line)

-- a word with a space before it, unless it is the first of its line
abbrev pub spaced_at : ℕ → List ℕ → List ℕ
spaced_at i w = cond (i == 0) w (32 ∷ w)

-- words with one space between each two
abbrev pub spaced : List (List ℕ) → List ℕ
spaced ws = join_with_byte 32 ws

-- a line without the carriage return that it may end in
unfoldable pub trimmed : List ℕ → List ℕ
trimmed [] = []
trimmed (b ∷ []) = cond (b == 13) [] (b ∷ [])
trimmed (b ∷ x ∷ bs) = b ∷ trimmed (x ∷ bs)
