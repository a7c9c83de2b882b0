-- What stands before the heading of a text.
use Rattle.std.specs.Prelude.{ℕ, suc, Bool, cond, List, [], ◌∷◌, ◌==◌}
use Rattle.std.specs.List.{prefix_len}
use Rattle.dimacs.specs.Words.{Piece, is_comment, ahead}
use Rattle.dimacs.specs.Runs.{blank, in_line, indent}

-- where in a line the bytes begin
pub data Where : Type 0 where
  start : Where
  middle : Where
  comment : Where

abbrev pub after : ℕ → Where → Where
after b w = cond (b == 10) start w

-- how many bytes stand before the first word that is in no comment: a line whose first byte is c is a comment
abbrev pub preface : Where → List ℕ → ℕ
preface w [] = 0
preface start (b ∷ bs) =
    cond (b == 99) (suc (preface comment bs)) (cond (blank b) (suc (preface (after b middle) bs)) 0)
preface middle (b ∷ bs) = cond (blank b) (suc (preface (after b middle) bs)) 0
preface comment (b ∷ bs) = suc (preface (after b comment) bs)

-- which bytes are passed over of a line: all of a comment, else the blanks before its first word
abbrev pub passed_over : List ℕ → ℕ → Bool
passed_over bs = cond (is_comment bs) in_line indent

-- how much of a line stands before its first word, or before its end where it is a comment or has no word
abbrev pub lead : List ℕ → ℕ
lead bs = prefix_len (passed_over bs) bs

-- the words of a text after its leading comment lines
abbrev pub after_preface : List ℕ → List Piece
after_preface bs = ahead (preface start bs) bs
