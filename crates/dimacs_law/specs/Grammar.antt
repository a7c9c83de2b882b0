-- When a text is accepted, and what it then writes, said without a way to read it.
use Rattle.std.specs.Prelude.{◌≡◌, ℕ, ◌<◌, ◌≤◌, false, ◌&&◌, List, [], ◌∷◌, ◌++◌, map, length, ℤ, Ok, codes, decimal, unsigned_abs}
use Rattle.std.specs.List.{flat_map, AllByRecursion}
use Rattle.std.specs.Fmt.{signed_decimal}
use Rattle.clause.specs.declared.words.Clause.{Clause}
use Rattle.clause.specs.Clauses.{lits}
use Rattle.clause.specs.Reading.{some_plus, some_minus, Lists}
use Rattle.dimacs.specs.Words.{Piece}
use Rattle.dimacs.specs.Walk.{Parsed, parse}
use Rattle.dimacs_law.specs.Cut.{Cut}
use Rattle.dimacs_law.specs.Lines.{line, Skipped}

-- the words of a clause: its literals in decimal, and 0
abbrev pub spelled : List ℤ → List (List ℕ)
spelled ls = map signed_decimal ls ++ codes "0" ∷ []

-- the words of a text with that many atoms and those clauses
abbrev pub spelled_text : ℕ → List (List ℤ) → List (List ℕ)
spelled_text atoms lss = codes "p" ∷ codes "cnf" ∷ decimal atoms ∷ decimal (length lss) ∷ flat_map spelled lss

-- a literal of one of the atoms 1 to n
abbrev pub InRange : ℕ → ℤ → Type 0
InRange n l = (0 < unsigned_abs l) × (unsigned_abs l ≤ n)

-- literals that make a clause: there is one, all are in range, and no atom stands in both signs; c is the set of them
pub record Makes (atoms : ℕ) (ls : List ℤ) (c : Clause) : Type 0 where
  pub some : 0 < length ls
  pub range : AllByRecursion (InRange atoms) ls
  pub apart : (a : ℕ) → 0 < a → some_plus a ls && some_minus a ls ≡ false
  pub set : Lists ls (lits c)

-- each of the lists of literals makes the clause at its place
abbrev pub MakeAll : ℕ → List (List ℤ) → List Clause → Type 0
MakeAll atoms [] [] = Unit {0}
MakeAll atoms [] (c ∷ cs) = ⊥
MakeAll atoms (ls ∷ lss) [] = ⊥
MakeAll atoms (ls ∷ lss) (c ∷ cs) = Makes atoms ls c × MakeAll atoms lss cs

-- after lines that are comments or blank, the bytes cut into words that spell a heading of at most n atoms and its clauses
pub record Accepted (n : ℕ) (bs : List ℕ) (p : Parsed) : Type 0 where
  pub lines : List (List ℕ)
  pub rest : List ℕ
  pub whole : bs ≡ flat_map line lines ++ rest
  pub skipped : AllByRecursion Skipped lines
  pub words : List Piece
  pub cut : Cut (length (flat_map line lines)) rest words
  pub literals : List (List ℤ)
  pub spells : map (λ (w : Piece). w.1) words ≡ spelled_text p.atoms literals
  pub clauses : MakeAll p.atoms literals p.clauses
  pub some : 0 < p.atoms
  pub most : p.atoms ≤ n
  pub count : length literals ≤ 16384

-- a text is accepted exactly where it is of this form, and what it writes is what the form says
abbrev pub TextsAreSpelled : Type 0
TextsAreSpelled = (n : ℕ) (bs : List ℕ) (p : Parsed) → n ≤ 64 → length bs ≤ 1048576 →
    (parse n bs ≡ Ok p → Accepted n bs p) × (Accepted n bs p → parse n bs ≡ Ok p)
