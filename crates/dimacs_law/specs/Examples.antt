-- Worked examples.
use Rattle.std.specs.Prelude.{◌≡◌, ℕ, List, [], ◌∷◌, map, Ok, Err, codes, Result}
use Rattle.clause.specs.Clauses.{Literals, lits}
use Rattle.clause.specs.Refusals.{Told, refused}
use Rattle.dimacs.specs.Walk.{Parsed, parse}

-- the number of atoms, and the words of each clause
abbrev pub shown : Result Parsed Told → Result (ℕ × List Literals) Told
shown (Ok p) = Ok (p.atoms, map lits p.clauses)
shown (Err e) = Err e

pub record Reads : Type 0 where
  pub three : shown (parse 3 (codes "c three\np cnf 3 3\n1 3 0\n-3 2 0\n-2 0\n"))
      ≡ Ok (3, record { pos = 5; neg = 0 } ∷ record { pos = 2; neg = 4 } ∷ record { pos = 0; neg = 2 } ∷ [])
  pub repeats : shown (parse 3 (codes "p cnf 2 1\n1 1\n-2 1\n0")) ≡ Ok (2, record { pos = 1; neg = 2 } ∷ [])
  pub blank_line_first : shown (parse 3 (codes " \t\nc c\n\tp\ncnf 1\t0")) ≡ Ok (1, [])

pub record Faults : Type 0 where
  pub minus_zero : parse 3 (codes "p cnf 3 3\n1 3 0\n-0 2 0\n-2 0\n") ≡ Err (refused 5 16)
  pub leading_zero : parse 3 (codes "p cnf 3 1\n01 0\n") ≡ Err (refused 5 10)
  pub indented_comment : parse 3 (codes " c\np cnf 3 0\n") ≡ Err (refused 5 1)
  pub heading_ends : parse 3 (codes "c\np cnf 3") ≡ Err (refused 5 9)
  pub too_many_atoms : parse 3 (codes "p cnf 4 0\n") ≡ Err (refused 6 6)
  pub too_many_clauses : parse 3 (codes "p cnf 3 16385\n") ≡ Err (refused 6 8)
  pub no_such_atom : parse 3 (codes "p cnf 2 1\n1 -3 0\n") ≡ Err (refused 6 12)
  pub overlong : parse 3 (codes "p cnf 3 1\n18446744073709551617 0\n") ≡ Err (refused 6 10)
  pub both_signs : parse 3 (codes "p cnf 3 1\n1 2 -1 0\n") ≡ Err (refused 7 14)
  pub no_literal : parse 3 (codes "p cnf 3 2\n1 0\n0\n") ≡ Err (refused 8 14)
  pub one_more : parse 3 (codes "p cnf 3 1\n1 0\n2 0\n") ≡ Err (refused 9 14)
  pub clause_ends : parse 3 (codes "p cnf 3 1\n1") ≡ Err (refused 9 11)
