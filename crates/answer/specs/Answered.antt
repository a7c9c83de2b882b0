-- What the answer call prints for a text.
use Rattle.std.specs.Prelude.{ℕ, ◌+◌, ◌*◌, ◌/◌, cond, List, [], ◌++◌, length, Ok, Err, codes, Result, ◌==◌, nat_lt}
use Rattle.clause.specs.Refusals.{Told, refused}
use Rattle.dimacs.specs.Walk.{Parsed, parse}
use Rattle.store.specs.Held.{Held}
use Rattle.session.specs.declared.search.Search.{Search}
use Rattle.session.specs.Reports.{Said, satisfiable, unsatisfiable, stopped, Ended}
use Rattle.session.specs.Steps.{After}
use Rattle.session.specs.Calls.{opened, load, run}
use Rattle.answer.specs.Printed.{counts_line, fault_line, values_line}

-- 100 times size by places, rounded half up
abbrev pub percent : ℕ → ℕ → ℕ
percent size places = cond (places == 0) 0 ((200 * size + places) / (2 * places))

-- the line of counts
abbrev pub counted : Search → ℕ → ℕ → List ℕ
counted s size places = counts_line s.given s.made.derivations s.made.settings (percent size places)

abbrev pub faulted : Told → List ℕ
faulted t = fault_line t.number t.place

-- the line of a verdict
abbrev pub status : Said → List ℕ
status satisfiable = codes "s SATISFIABLE\n"
status unsatisfiable = codes "s UNSATISFIABLE\n"
status (stopped t) = codes "s UNKNOWN\n"

-- how a run ended: the verdict, under satisfiable the valuation, and the counts
abbrev pub valued : ℕ → Search → Said → List ℕ
valued n s satisfiable = values_line n s.valuation
valued n s unsatisfiable = []
valued n s (stopped t) = []

abbrev pub reported : ℕ → Search → Said → ℕ → ℕ → List ℕ
reported n s o size places = status o ++ valued n s o ++ counted s size places

abbrev pub ran_as : ℕ → Held → Search → Result Ended Told → List ℕ
ran_as n h s (Ok e) = reported n s e.outcome (length h.entries) h.places
ran_as n h s (Err t) = faulted t

-- what is printed of a run in a session with n atoms
abbrev pub ran : ℕ → After (Result Ended Told) → List ℕ
ran n a = ran_as n a.held a.search a.answer

abbrev pub loaded_as : ℕ → Held → Search → Result ℕ Told → List ℕ
loaded_as n h s (Ok m) = ran n (run h s 2000000)
loaded_as n h s (Err t) = faulted t

-- what is printed of a load, which a run of 2,000,000 steps follows
abbrev pub loaded : ℕ → After (Result ℕ Told) → List ℕ
loaded n a = loaded_as n a.held a.search a.answer

-- an empty store of 1,024 places
abbrev pub vacant : Held
vacant = record { entries = []; places = 1024 }

-- a session with the text's own count of atoms
abbrev pub parsed_as : List ℕ → Result Parsed Told → List ℕ
parsed_as bs (Ok p) = loaded p.atoms (load vacant (opened p.atoms vacant) bs)
parsed_as bs (Err t) = faulted t

-- what the call prints for the text bs
abbrev pub answered : List ℕ → List ℕ
answered bs = cond (nat_lt 32768 (length bs)) (faulted (refused 4 0)) (parsed_as bs (parse 64 bs))
