-- The words of a text.
use Rattle.std.specs.Prelude.{ℕ, ◌+◌, Bool, false, cond, List, [], ◌∷◌, ◌++◌, drop, ◌==◌}
use Rattle.dimacs.specs.Runs.{blank}

-- a word with its place, the index of its first byte in the text
abbrev pub Piece : Type 0
Piece = ℕ × List ℕ

-- a word that is read to its end, if it has a byte, before the words that follow
abbrev pub ended : ℕ → List ℕ → List Piece → List Piece
ended start [] ws = ws
ended start (b ∷ w) ws = (start, b ∷ w) ∷ ws

-- the words of the bytes at place `at`, where w was read before them of a word that began at `start`
abbrev pub scan : ℕ → List ℕ → ℕ → List ℕ → List Piece
scan start w at [] = ended start w []
scan start w at (b ∷ bs) =
    cond (blank b) (ended start w (scan (at + 1) [] (at + 1) bs)) (scan start (w ++ b ∷ []) (at + 1) bs)

-- the words of the bytes that begin at place `at`
abbrev pub words : ℕ → List ℕ → List Piece
words at bs = scan at [] at bs

-- a line before the heading whose first byte is c
abbrev pub is_comment : List ℕ → Bool
is_comment [] = false
is_comment (b ∷ bs) = b == 99

abbrev pub minus : List ℕ → Bool
minus [] = false
minus (b ∷ bs) = b == 45

-- without the minus that it may begin with
abbrev pub unsigned : List ℕ → List ℕ
unsigned w = cond (minus w) (drop 1 w) w

-- the words of a text from a place on
abbrev pub ahead : ℕ → List ℕ → List Piece
ahead at text = words at (drop at text)
