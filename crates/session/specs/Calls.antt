-- The calls of a session: what each answers, and what session and store then hold.
use Rattle.std.specs.Prelude.{ℕ, ◌-◌, Bool, true, false, cond, List, [], ◌∷◌, length, ℤ, Some, None, Ok, Err, Option, Result, ◌==◌, nat_lt}
use Rattle.clause.specs.declared.words.Clause.{Clause}
use Rattle.clause.specs.declared.refusal.Refusal.{Refusal}
use Rattle.clause.specs.declared.refusal.Refusal.TheVariants.{AtomCount, NoPlaces, StoreHoldsEntry}
use Rattle.clause.specs.Clauses.{lits, top}
use Rattle.clause.specs.Reading.{reads, clear, outside}
use Rattle.clause.specs.Refusals.{Told, told, refused}
use Rattle.dimacs.specs.Walk.{Parsed, parse}
use Rattle.store.specs.declared.entry.Entry.{Entry}
use Rattle.store.specs.Held.{Held, found, after_put, put_answer}
use Rattle.session.specs.declared.search.Search.{Search}
use Rattle.session.specs.declared.search.Phase.{Phase}
use Rattle.session.specs.declared.search.Phase.TheVariants.{Unopened, Undecided, Satisfied, Refuted}
use Rattle.session.specs.Reports.{Ended, none_made}
use Rattle.session.specs.Searching.{fresh, admitted}
use Rattle.session.specs.Steps.{After, after, runs}

-- the first that is due at an opening with n atoms over a store that holds h: 1, 2 or 3
abbrev pub due : ℕ → Held → Option Refusal
due n h = cond (outside 64 n) (Some AtomCount) (cond (h.places == 0) (Some NoPlaces) (cond (length h.entries == 0) None (Some StoreHoldsEntry)))

abbrev pub opening : Option Refusal → Phase
opening None = Undecided
opening (Some e) = Unopened e

-- a session with n atoms, opened in spite of what is due
abbrev pub opened : ℕ → Held → Search
opened n h = fresh n (opening (due n h))

abbrev pub given : Clause → Entry
given c = record { clause = c; first = 0; second = 0 }

abbrev pub put_new : Held → Search → Clause → Result ℕ Told → After (Result ℕ Told)
put_new h s c (Ok k) = after (after_put h (given c)) (admitted s c) (Ok k)
put_new h s c (Err e) = after (after_put h (given c)) s (Err e)

-- a held clause keeps its number, and nothing alters
abbrev pub adding : Held → Search → Clause → Option ℕ → After (Result ℕ Told)
adding h s c (Some k) = after h s (Ok k)
adding h s c None = put_new h s c (put_answer h (given c))

abbrev pub add_clause : Held → Search → Clause → Bool → After (Result ℕ Told)
add_clause h s c true = after h s (Err (refused 8 0))
add_clause h s c false = adding h s c (found h c)

abbrev pub add_read : Held → Search → Result Clause Told → After (Result ℕ Told)
add_read h s (Ok c) = add_clause h s c (top (lits c) == 0)
add_read h s (Err e) = after h s (Err e)

-- add: a session refused at its opening answers that; then come the literals
abbrev pub add_in : Held → Search → List ℤ → Phase → After (Result ℕ Told)
add_in h s ls (Unopened e) = after h s (Err (told e))
add_in h s ls Undecided = add_read h s (reads s.atoms 0 clear ls)
add_in h s ls Satisfied = add_read h s (reads s.atoms 0 clear ls)
add_in h s ls (Refuted i j) = add_read h s (reads s.atoms 0 clear ls)

abbrev pub add : Held → Search → List ℤ → After (Result ℕ Told)
add h s ls = add_in h s ls s.phase

-- the clauses accepted one after the other; m is the answer
abbrev pub loads : ℕ → Held → Search → List Clause → After (Result ℕ Told)
loads m h s [] = after h s (Ok m)
loads m h s (c ∷ cs) =
    loads m (add_clause h s c (top (lits c) == 0)).held (add_clause h s c (top (lits c) == 0)).search cs

-- all clauses, where there is a free place for each, even where they repeat
abbrev pub load_all : Held → Search → List Clause → Bool → After (Result ℕ Told)
load_all h s cs true = after h s (Err (refused 10 0))
load_all h s cs false = loads (length cs) h s cs

abbrev pub load_parsed : Held → Search → Result Parsed Told → After (Result ℕ Told)
load_parsed h s (Ok p) = load_all h s p.clauses (nat_lt (h.places - length h.entries) (length p.clauses))
load_parsed h s (Err e) = after h s (Err e)

-- load: the clauses of a text in order, or none of them
abbrev pub load_in : Held → Search → List ℕ → Phase → After (Result ℕ Told)
load_in h s bs (Unopened e) = after h s (Err (told e))
load_in h s bs Undecided = load_parsed h s (parse s.atoms bs)
load_in h s bs Satisfied = load_parsed h s (parse s.atoms bs)
load_in h s bs (Refuted i j) = load_parsed h s (parse s.atoms bs)

abbrev pub load : Held → Search → List ℕ → After (Result ℕ Told)
load h s bs = load_in h s bs s.phase

-- run: a budget above 2,000,000 is refused before anything is looked at
abbrev pub allowed : Held → Search → ℕ → Bool → After (Result Ended Told)
allowed h s b true = after h s (Err (refused 4 0))
allowed h s b false = runs b h s none_made

abbrev pub run_in : Held → Search → ℕ → Phase → After (Result Ended Told)
run_in h s b (Unopened e) = after h s (Err (told e))
run_in h s b Undecided = allowed h s b (nat_lt 2000000 b)
run_in h s b Satisfied = allowed h s b (nat_lt 2000000 b)
run_in h s b (Refuted i j) = allowed h s b (nat_lt 2000000 b)

abbrev pub run : Held → Search → ℕ → After (Result Ended Told)
run h s b = run_in h s b s.phase

abbrev pub show_in : Search → Phase → Result ℕ Told
show_in s (Unopened e) = Err (told e)
show_in s Undecided = Err (refused 11 0)
show_in s Satisfied = Ok s.valuation
show_in s (Refuted i j) = Err (refused 11 0)

-- show: the valuation under a satisfiable verdict
abbrev pub shown : Search → Result ℕ Told
shown s = show_in s s.phase
