-- The clauses of a text, word by word.
use Rattle.std.specs.Prelude.{ℕ, ◌-◌, cond, ℤ, Some, None, Ok, Err, Option, Result, ◌==◌, unsigned_abs}
use Rattle.clause.specs.declared.words.Clause.{Clause}
use Rattle.clause.specs.Clauses.{lits, top}
use Rattle.clause.specs.Reading.{clear, outside, grown}
use Rattle.clause.specs.Refusals.{Told, refused}
use Rattle.dimacs.specs.declared.body.Scan.{Scan}
use Rattle.dimacs.specs.Numbers.{literal}
use Rattle.dimacs.specs.Words.{Piece}

-- a scan with k clauses to come, of which the first begins with the literals of c
abbrev pub going : Scan → ℕ → Clause → Scan
going s k c = record { atoms = s.atoms; left = k; clause = c }

-- a 0 ends the clause
abbrev pub at_end : Scan → ℕ → Result Scan Told
at_end s place = cond (top (lits s.clause) == 0) (Err (refused 8 place)) (Ok (going s (s.left - 1) clear))

abbrev pub grows : Scan → ℕ → Option Clause → Result Scan Told
grows s place None = Err (refused 7 place)
grows s place (Some c) = Ok (going s s.left c)

-- another literal goes into the clause
abbrev pub at_atom : Scan → ℕ → ℤ → Result Scan Told
at_atom s place l = cond (outside s.atoms (unsigned_abs l)) (Err (refused 6 place)) (grows s place (grown s.clause l (unsigned_abs l)))

abbrev pub at_literal : Scan → ℕ → Option ℤ → Result Scan Told
at_literal s place None = Err (refused 5 place)
at_literal s place (Some l) = cond (unsigned_abs l == 0) (at_end s place) (at_atom s place l)

-- what one word makes of a scan
abbrev pub step : Scan → Piece → Result Scan Told
step s w = cond (s.left == 0) (Err (refused 9 w.0)) (at_literal s w.0 (literal w.1))
