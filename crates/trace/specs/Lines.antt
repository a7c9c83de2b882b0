-- The lines and the bytes of a trace.
use Rattle.std.specs.Prelude.{ℕ, zero, suc, ◌+◌, ◌*◌, Bool, cond, List, [], ◌∷◌, ◌++◌, map, length, ◌==◌}
use Rattle.store.specs.declared.entry.Entry.{Entry}
use Rattle.lines.specs.declared.line.Line.{Line}
use Rattle.lines.specs.declared.line.Trailer.{Trailer}
use Rattle.lines.specs.Format.{line_bytes, trailer_bytes}
use Rattle.rule.specs.Tests.{is_bare}
use Rattle.trace.specs.Marks.{entry_of, marked, marks_of}

-- the order of the lines: the numbers of the marked entries up to k, by arrival
unfoldable pub order : (ℕ → Bool) → ℕ → List ℕ
order m zero = []
order m (suc k) = cond (m (suc k)) (order m k ++ suc k ∷ []) (order m k)

-- the place of k in ks, of which the first has place i; 0 where k is not among them
unfoldable pub place_from : ℕ → List ℕ → ℕ → ℕ
place_from i [] k = 0
place_from i (x ∷ ks) k = cond (x == k) i (place_from (i + 1) ks k)

-- the line of entry k, where the lines are those of the entries ks; 0 where it has none
abbrev pub place : List ℕ → ℕ → ℕ
place ks k = place_from 1 ks k

-- l with the numbers of lines in place of those of entries
abbrev pub renumbered : List ℕ → Line → Line
renumbered ks l = record { positive = l.positive; negative = l.negative; first = place ks l.first; second = place ks l.second }

-- an entry as a line, still with the numbers of entries
abbrev pub as_line : Entry → Line
as_line e = record { positive = e.clause.positive; negative = e.clause.negative; first = e.first; second = e.second }

-- the empty clause, derived from entries r and c
abbrev pub closing : ℕ → ℕ → Line
closing r c = record { positive = 0; negative = 0; first = r; second = c }

-- the line of entry k
abbrev pub line_for : List Entry → List ℕ → ℕ → Line
line_for es ks k = renumbered ks (as_line (entry_of es k))

-- the lines of the entries ks
abbrev pub entry_lines : List Entry → List ℕ → List Line
entry_lines es ks = map (line_for es ks) ks

-- the lines of the entries ks, and then the empty clause
unfoldable pub trace_lines : List Entry → List ℕ → ℕ → ℕ → List Line
trace_lines es ks r c = entry_lines es ks ++ renumbered ks (closing r c) ∷ []

unfoldable pub lines_bytes : List Line → List ℕ
lines_bytes [] = []
lines_bytes (l ∷ ls) = line_bytes l ++ lines_bytes ls

-- how many of the lines are given: both numbers are 0
unfoldable pub given_lines : List Line → ℕ
given_lines [] = 0
given_lines (l ∷ ls) = cond (is_bare l) 1 0 + given_lines ls

-- the trailer for n atoms, so many lines, and so many given ones
abbrev pub trailer_for : ℕ → ℕ → ℕ → Trailer
trailer_for n count given = record { atoms = n; distance = 24 * count; last = count; given = given }

-- the lines and the trailer, as bytes
unfoldable pub trace_of : ℕ → List Line → List ℕ
trace_of n ls = lines_bytes ls ++ trailer_bytes (trailer_for n (length ls) (given_lines ls))

-- the entries with a mark, in the order of their lines
abbrev pub chosen : List ℕ → List Entry → List ℕ
chosen ms es = order (marked ms) (length es)

-- the entries that the empty clause depends on, in the order of their lines
abbrev pub written : List Entry → ℕ → ℕ → List ℕ
written es r c = chosen (marks_of es r c) es

-- the trace of the empty clause, derived from entries r and c, over n atoms
unfoldable pub trace : ℕ → List Entry → ℕ → ℕ → List ℕ
trace n es r c = trace_of n (trace_lines es (written es r c) r c)
