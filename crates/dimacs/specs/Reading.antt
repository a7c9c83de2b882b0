-- What a reader has still to hand out.
use Rattle.std.specs.Prelude.{ℕ, List, length}
use Rattle.dimacs.specs.declared.reader.Reader.{Reader}
use Rattle.dimacs.specs.declared.reader.Word.{Word}
use Rattle.dimacs.specs.Words.{Piece, ahead}

abbrev pub piece : Word → Piece
piece w = (w.place, w.bytes.now)

-- the whole text
abbrev pub content : Reader → List ℕ
content r = r.text.now

-- where the text ends
abbrev pub text_end : Reader → ℕ
text_end r = length (content r)

-- the words to come
abbrev pub left : Reader → List Piece
left r = ahead r.at (content r)
