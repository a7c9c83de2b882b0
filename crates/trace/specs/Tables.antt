-- A table of line numbers.
use Rattle.std.specs.Prelude.{◌≡◌, ℕ, zero, suc, List, slice_index}
use Rattle.lines.specs.declared.line.Line.{Line}
use Rattle.trace.specs.Lines.{place}

-- the number for entry k, from 1; 0 outside the table
unfoldable pub line_in : List ℕ → ℕ → ℕ
line_in table zero = 0
line_in table (suc k) = slice_index table k

-- l with the numbers of lines that the table has for those of entries
abbrev pub by_table : List ℕ → Line → Line
by_table table l = record { positive = l.positive; negative = l.negative; first = line_in table l.first; second = line_in table l.second }

-- the table has the line of each entry, where the lines are those of the entries ks
unfoldable pub Table : List ℕ → List ℕ → Type 0
Table ks table = (k : ℕ) → line_in table k ≡ place ks k
