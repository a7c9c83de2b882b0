-- Texts as sessions take them.
use Rattle.std.specs.Prelude.{◌≡◌, ℕ, ◌≤◌, List, length, None, Ok, Result}
use Rattle.std.specs.List.{AllByRecursion}
use Rattle.clause.specs.declared.words.Clause.{Clause}
use Rattle.clause.specs.Clauses.{lits}
use Rattle.clause.specs.Refusals.{Told}
use Rattle.dimacs.specs.Walk.{Parsed, parse}
use Rattle.store.specs.Held.{Held, Kept}
use Rattle.session.specs.Reports.{Ended}
use Rattle.session.specs.Steps.{After}
use Rattle.session.specs.Calls.{due, opened, load, run}
use Rattle.search_law.specs.Law.{Ordinary, Ending}

-- every clause of a text has an atom, and none above those of the session
abbrev pub ClauseLaw : Type 0
ClauseLaw = (n : ℕ) (bs : List ℕ) (p : Parsed) → parse n bs ≡ Ok p → AllByRecursion (λ (c : Clause). Ordinary n (lits c)) p.clauses

-- a text writes the same for every bound that its own count of atoms keeps
abbrev pub BoundLaw : Type 0
BoundLaw = (n m : ℕ) (bs : List ℕ) (p : Parsed) → parse n bs ≡ Ok p → p.atoms ≤ m → parse m bs ≡ Ok p

-- a session just opened over h, after the text bs was loaded
abbrev pub fed : ℕ → Held → List ℕ → After (Result ℕ Told)
fed n h bs = load h (opened n h) bs

-- the load a took all of cs, and the run z that followed it with budget b ended as the law says for cs
abbrev pub Decided : List Clause → ℕ → After (Result ℕ Told) → After (Result Ended Told) → Type 0
Decided cs b a z = (a.answer ≡ Ok (length cs)) × ((e : Ended) × (z.answer ≡ Ok e) × Ending cs a.held a.search b z.held z.search e)

-- a session just opened takes a text whose clauses have places, and a run within the bound on budgets then ends so for just its clauses
abbrev pub DecideLaw : Type 0
DecideLaw = (n : ℕ) (h : Held) → Kept h → due n h ≡ None → (bs : List ℕ) (p : Parsed) → parse n bs ≡ Ok p → length p.clauses ≤ h.places →
    (b : ℕ) → b ≤ 2000000 → Decided p.clauses b (fed n h bs) (run (fed n h bs).held (fed n h bs).search b)
