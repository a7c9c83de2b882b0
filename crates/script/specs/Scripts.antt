-- The lines of a script: their numbers, their words, and the requests that they are.
use Rattle.std.specs.Prelude.{ℕ, ◌+◌, ◌-◌, ◌^◌, min, Bool, cond, List, [], ◌∷◌, Some, None, string_bytes, Option, ◌==◌, slice_index}
use Rattle.script.specs.declared.text.Line.{Line}
use Rattle.script.specs.Lines.{pieces, words, spaced, trimmed}
use Rattle.script.specs.Requests.{Asked, meant, asks}

-- a line by its values: its number, its words with one space between them, and the request, if it is one
pub record Numbered : Type 0 where
  pub number : ℕ
  pub call : List ℕ
  pub asked : Option Asked

abbrev pub line_as : Line → Numbered
line_as l = record { number = l.number; call = string_bytes l.call; asked = meant l.request }

-- a comment begins with #
abbrev pub comment : List ℕ → Bool
comment bs = slice_index bs 0 == 35

abbrev pub numbered : ℕ → List (List ℕ) → Option Numbered
numbered n [] = None
numbered n (w ∷ ws) = Some (record { number = n; call = spaced (w ∷ ws); asked = asks (w ∷ ws) })

-- line n, or nothing where it is skipped: a comment, or without a word
abbrev pub line_of : ℕ → List ℕ → Option Numbered
line_of n bs = cond (comment bs) None (numbered n (words (trimmed bs)))

abbrev pub kept : Option Numbered → List Numbered → List Numbered
kept (Some l) ls = l ∷ ls
kept None ls = ls

-- the next number, in 64 bits
abbrev pub next : ℕ → ℕ
next n = min (n + 1) (2 ^ 64 - 1)

-- the lines that are not skipped, where n is the number of the line before them
unfoldable pub lines_from : ℕ → List (List ℕ) → List Numbered
lines_from n [] = []
lines_from n (l ∷ ls) = kept (line_of (next n) l) (lines_from (next n) ls)

-- the lines of a script, which line feeds separate
abbrev pub lines_of : List ℕ → List Numbered
lines_of bs = lines_from 0 (pieces 10 bs)
