-- Worked examples: what sessions with three atoms answer, by computation.
use Rattle.std.specs.Prelude.{◌≡◌, ℕ, true, List, [], ◌∷◌, ℤ, pos, negsuc, Ok, Err, Result, nat_lt}
use Rattle.clause.specs.Clauses.{Literals}
use Rattle.clause.specs.Order.{rank}
use Rattle.clause.specs.Refusals.{Told, refused}
use Rattle.store.specs.Held.{Held}
use Rattle.session.specs.declared.search.Search.{Search}
use Rattle.session.specs.declared.search.Phase.TheVariants.{Refuted}
use Rattle.session.specs.Reports.{Said, satisfiable, unsatisfiable, stopped, Ended}
use Rattle.session.specs.Steps.{After}
use Rattle.session.specs.Calls.{opened, add, run, shown}

-- a session: what its store holds, and its search
pub record State : Type 0 where
  pub held : Held
  pub search : Search

abbrev pub left : {X : Type 0} → After X → State
left a = record { held = a.held; search = a.search }

-- three atoms, and an empty store of p places
abbrev pub fresh : ℕ → State
fresh p = record { held = record { entries = []; places = p }; search = opened 3 (record { entries = []; places = p }) }

abbrev pub adding : State → List ℤ → After (Result ℕ Told)
adding t ls = add t.held t.search ls

abbrev pub added : State → List (List ℤ) → State
added t [] = t
added t (c ∷ cs) = added (left (adding t c)) cs

abbrev pub running : State → ℕ → After (Result Ended Told)
running t b = run t.held t.search b

-- how a run ended: its settings and derivations
abbrev pub ended : Said → ℕ → ℕ → Result Ended Told
ended o s d = Ok (record { outcome = o; made = record { settings = s; derivations = d } })

abbrev pub shows : {X : Type 0} → After X → Result ℕ Told
shows a = shown a.search

-- {1,3}, {-3,2}, {-2}
abbrev pub chain : List (List ℤ)
chain = (pos 1 ∷ pos 3 ∷ []) ∷ (negsuc 2 ∷ pos 2 ∷ []) ∷ (negsuc 1 ∷ []) ∷ []

-- no clause: satisfiable, nothing true
abbrev pub NoClause : Type 0
NoClause = ((running (fresh 8) 0).answer ≡ ended satisfiable 0 0) × (shows (running (fresh 8) 0) ≡ Ok 0)

-- {1}: a budget of 0 is used up; with 1, the atom 1 is true
abbrev pub OneAtom : Type 0
OneAtom =
    ((running (added (fresh 8) ((pos 1 ∷ []) ∷ [])) 0).answer ≡ ended (stopped (refused 14 0)) 0 0)
    × ((running (added (fresh 8) ((pos 1 ∷ []) ∷ [])) 1).answer ≡ ended satisfiable 1 0)
    × (shows (running (added (fresh 8) ((pos 1 ∷ []) ∷ [])) 1) ≡ Ok 1)

-- {1}, {-1}: unsatisfiable after one setting and one derivation, from entries 1 and 2
abbrev pub Contradiction : Type 0
Contradiction =
    ((running (added (fresh 8) ((pos 1 ∷ []) ∷ (negsuc 0 ∷ []) ∷ [])) 100).answer ≡ ended unsatisfiable 1 1)
    × ((running (added (fresh 8) ((pos 1 ∷ []) ∷ (negsuc 0 ∷ []) ∷ [])) 100).search.phase ≡ Refuted 1 2)

-- {1,2}, {1,3}: 2 and 3 true, not the valuation with fewest true atoms
abbrev pub Least : Type 0
Least =
    ((running (added (fresh 8) ((pos 1 ∷ pos 2 ∷ []) ∷ (pos 1 ∷ pos 3 ∷ []) ∷ [])) 100).answer ≡ ended satisfiable 2 0)
    × (shows (running (added (fresh 8) ((pos 1 ∷ pos 2 ∷ []) ∷ (pos 1 ∷ pos 3 ∷ []) ∷ [])) 100) ≡ Ok 6)

-- {1,3}, {-3,2}, {-2}: sets 3, derives {1,2}, sets 2, derives {1}, sets 1
abbrev pub Chain : Type 0
Chain = ((running (added (fresh 8) chain) 100).answer ≡ ended satisfiable 3 2) × (shows (running (added (fresh 8) chain) 100) ≡ Ok 1)

-- then {-1}: unsatisfiable after one derivation from entries 5 and 6
abbrev pub ThenRefuted : Type 0
ThenRefuted =
    ((running (added (left (running (added (fresh 8) chain) 100)) ((negsuc 0 ∷ []) ∷ [])) 100).answer ≡ ended unsatisfiable 0 1)
    × ((running (added (left (running (added (fresh 8) chain) 100)) ((negsuc 0 ∷ []) ∷ [])) 100).search.phase ≡ Refuted 5 6)

-- the chain in 3 places: no place is free after one setting
abbrev pub NoPlace : Type 0
NoPlace = (running (added (fresh 3) chain) 100).answer ≡ ended (stopped (refused 10 0)) 1 0

-- {2} twice: both answer 1
abbrev pub Twice : Type 0
Twice = ((adding (fresh 8) (pos 2 ∷ [])).answer ≡ Ok 1) × ((adding (left (adding (fresh 8) (pos 2 ∷ []))) (pos 2 ∷ [])).answer ≡ Ok 1)

-- literals that are accepted and refused
abbrev pub Literal : Type 0
Literal =
    ((adding (fresh 8) (pos 2 ∷ pos 2 ∷ negsuc 0 ∷ [])).answer ≡ Ok 1)
    × ((adding (fresh 8) (pos 2 ∷ negsuc 1 ∷ [])).answer ≡ Err (refused 7 1))
    × ((adding (fresh 8) (pos 3 ∷ [])).answer ≡ Ok 1)
    × ((adding (fresh 8) (pos 4 ∷ [])).answer ≡ Err (refused 6 0))
    × ((adding (fresh 8) (pos 0 ∷ [])).answer ≡ Err (refused 6 0))
    × ((adding (fresh 8) (negsuc 2147483647 ∷ [])).answer ≡ Err (refused 6 0))
    × ((adding (fresh 8) []).answer ≡ Err (refused 8 0))

abbrev pub under : Literals → Literals → Type 0
under c d = nat_lt (rank c) (rank d) ≡ true

abbrev pub lits : ℕ → ℕ → Literals
lits p n = record { pos = p; neg = n }

-- {} < {1} < {-1} < {2} < {2,1} < {2,-1} < {-2}
abbrev pub Order : Type 0
Order = under (lits 0 0) (lits 1 0) × under (lits 1 0) (lits 0 1) × under (lits 0 1) (lits 2 0) × under (lits 2 0) (lits 3 0) × under (lits 3 0) (lits 2 1) × under (lits 2 1) (lits 0 2)

abbrev pub Examples : Type 0
Examples = NoClause × OneAtom × Contradiction × Least × Chain × ThenRefuted × NoPlace × Twice × Literal × Order
