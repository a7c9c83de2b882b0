-- What the clauses of a text are, and its first fault.
use Rattle.std.specs.Prelude.{ℕ, cond, List, [], ◌∷◌, length, Some, None, Ok, Err, Option, Result, ◌==◌, nat_lt}
use Rattle.clause.specs.declared.words.Clause.{Clause}
use Rattle.clause.specs.declared.refusal.Refusal.{Refusal}
use Rattle.clause.specs.Reading.{clear}
use Rattle.clause.specs.Refusals.{Told, told, refused}
use Rattle.dimacs.specs.declared.body.Scan.{Scan}
use Rattle.dimacs.specs.declared.heading.Heading.{Heading}
use Rattle.dimacs.specs.Words.{Piece}
use Rattle.dimacs.specs.Preface.{after_preface}
use Rattle.dimacs.specs.Heading.{onward, headed}
use Rattle.dimacs.specs.Body.{step}

-- the clauses before the first fault, and the fault
pub record Course : Type 0 where
  pub clauses : List Clause
  pub fault : Option Told

-- a word that ends a clause has one clause less to come after it
abbrev pub finished : Scan → Scan → List Clause → List Clause
finished s t cs = cond (nat_lt t.left s.left) (s.clause ∷ cs) cs

abbrev pub stepped : Scan → Result Scan Told → (Scan → Course) → Course
stepped s (Ok t) f = record { clauses = finished s t (f t).clauses; fault = (f t).fault }
stepped s (Err e) f = record { clauses = []; fault = Some e }

-- the words of a text that ends at `end`: after the last, no clause may be to come
abbrev pub walk : ℕ → Scan → List Piece → Course
walk end s [] = record { clauses = []; fault = cond (s.left == 0) None (Some (refused 9 end)) }
walk end s (w ∷ ws) = stepped s (step s w) (λ t. walk end t ws)

-- where the clauses that a heading announces begin
abbrev pub begun : Heading → Scan
begun h = record { atoms = h.atoms; left = h.clauses; clause = clear }

-- a text that is accepted: how many atoms it has, and its clauses in order
pub record Parsed : Type 0 where
  pub atoms : ℕ
  pub clauses : List Clause

abbrev pub accepted : ℕ → List Clause → Option Told → Result Parsed Told
accepted n cs None = Ok (record { atoms = n; clauses = cs })
accepted n cs (Some e) = Err e

abbrev pub body : ℕ → Heading → List Piece → Result Parsed Told
body end h ws = accepted h.atoms (walk end (begun h) ws).clauses (walk end (begun h) ws).fault

abbrev pub parse_words : ℕ → ℕ → List Piece → Result Parsed Told
parse_words n end ws = onward (headed n end ws) (body end)

-- what a text with at most n atoms writes, or its refusal: at most 1,048,576 bytes, a heading and the clauses that it announces
abbrev pub parse : ℕ → List ℕ → Result Parsed Told
parse n bs = cond (nat_lt 1048576 (length bs)) (Err (refused 4 0)) (parse_words n (length bs) (after_preface bs))

-- the numbers of atoms and clauses
abbrev pub counts : Result Parsed Told → Result Heading Told
counts (Ok p) = Ok (record { atoms = p.atoms; clauses = length p.clauses })
counts (Err e) = Err e

abbrev pub fault_of : {X : Type 0} → Result X Refusal → Option Told
fault_of (Ok x) = None
fault_of (Err e) = Some (told e)

-- the clauses before the first fault; none where the heading has one
abbrev pub early_in : ℕ → Result (Heading × List Piece) Told → List Clause
early_in end (Ok r) = (walk end (begun r.0) r.1).clauses
early_in end (Err e) = []

abbrev pub early : ℕ → List ℕ → List Clause
early n bs = early_in (length bs) (headed n (length bs) (after_preface bs))

-- the scan of no clause
abbrev pub none : Scan
none = record { atoms = 0; left = 0; clause = clear }
