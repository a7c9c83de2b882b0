-- A step of the search, and a run of steps within a budget, over what a store holds.
use Rattle.std.specs.Prelude.{ℕ, zero, suc, Bool, true, false, Some, None, Ok, Err, Option, Result, ◌==◌}
use Rattle.clause.specs.declared.words.Clause.{Clause}
use Rattle.clause.specs.Clauses.{lits, top, resolvent}
use Rattle.clause.specs.Words.{at}
use Rattle.clause.specs.Refusals.{Told, told, refused}
use Rattle.store.specs.declared.entry.Entry.{Entry}
use Rattle.store.specs.Held.{Held, entry_at, after_put, full, least_false}
use Rattle.session.specs.declared.search.Search.{Search}
use Rattle.session.specs.declared.search.Phase.{Phase}
use Rattle.session.specs.declared.search.Phase.TheVariants.{Unopened, Undecided, Satisfied, Refuted}
use Rattle.session.specs.declared.report.Step.{Step}
use Rattle.session.specs.declared.report.Step.TheVariants.{Setting, Derivation}
use Rattle.session.specs.declared.report.Tally.{Tally}
use Rattle.session.specs.Reports.{Said, satisfiable, unsatisfiable, stopped, Ended, counted}
use Rattle.session.specs.Searching.{setting, derived, refuted, satisfied, reason_of}

-- what a store then holds, what its session then keeps, and what a call answers
pub record After (X : Type 0) : Type 0 where
  pub held : Held
  pub search : Search
  pub answer : X

abbrev pub after : {X : Type 0} → Held → Search → X → After X
after h s x = record { held = h; search = s; answer = x }

-- where something that cannot happen in a session begun with open stops a step
abbrev pub clash : Told
clash = refused 13 0

abbrev pub putting : Held → Search → ℕ → ℕ → Clause → Bool → After (Result Step Told)
putting h s r k d true = after h s (Err (refused 10 0))
putting h s r k d false =
    after (after_put h (record { clause = d; first = r; second = k })) (derived s (top (lits d))) (Ok Derivation)

-- d is derived from r and k
abbrev pub deriving_one : Held → Search → ℕ → ℕ → Clause → Bool → After (Result Step Told)
deriving_one h s r k d true = after h (refuted s r k) (Ok Derivation)
deriving_one h s r k d false = putting h s r k d (full h)

abbrev pub resolving : Held → Search → ℕ → ℕ → Option Clause → After (Result Step Told)
resolving h s r k None = after h s (Err clash)
resolving h s r k (Some d) = deriving_one h s r k d (top (lits d) == 0)

abbrev pub with_reason_entry : Held → Search → ℕ → Clause → ℕ → Option Entry → After (Result Step Told)
with_reason_entry h s k c r None = after h s (Err clash)
with_reason_entry h s k c r (Some e) = resolving h s r k (resolvent e.clause c)

abbrev pub with_reason : Held → Search → ℕ → Clause → Option ℕ → After (Result Step Told)
with_reason h s k c None = after h s (Err clash)
with_reason h s k c (Some r) = with_reason_entry h s k c r (entry_at h.entries r)

-- the highest literal positive: a setting; else a derivation from the reason of its atom
abbrev pub acting : Held → Search → ℕ → Clause → Bool → After (Result Step Told)
acting h s k c true = after h (setting s (top (lits c)) k) (Ok Setting)
acting h s k c false = with_reason h s k c (reason_of s (top (lits c)))

abbrev pub at_top : Held → Search → ℕ → Clause → Bool → After (Result Step Told)
at_top h s k c true = after h s (Err clash)
at_top h s k c false = acting h s k c (at c.positive (top (lits c)))

-- the step that acts on clause c, which has number k
abbrev pub step : Held → Search → ℕ → Clause → After (Result Step Told)
step h s k c = at_top h s k c (top (lits c) == 0)

abbrev pub step_at : Held → Search → ℕ → Option Entry → After (Result Step Told)
step_at h s k None = after h s (Err clash)
step_at h s k (Some e) = step h s k e.clause

abbrev pub ended : Held → Search → Said → Tally → After (Result Ended Told)
ended h s o t = after h s (Ok (record { outcome = o; made = t }))

-- before each step: does an unsatisfiable verdict stand, is no held clause false; otherwise go on with the clause found
abbrev pub looks : (ℕ → After (Result Ended Told)) → Held → Search → Tally → Phase → Option ℕ → After (Result Ended Told)
looks go h s t (Unopened e) f = after h s (Err (told e))
looks go h s t (Refuted i j) f = ended h s unsatisfiable t
looks go h s t Satisfied None = ended h (satisfied s) satisfiable t
looks go h s t Satisfied (Some k) = go k
looks go h s t Undecided None = ended h (satisfied s) satisfiable t
looks go h s t Undecided (Some k) = go k

abbrev pub goes_on : (Held → Search → Tally → After (Result Ended Told)) → Tally → Held → Search → Result Step Told → After (Result Ended Told)
goes_on go t h s (Ok m) = go h s (counted t m)
goes_on go t h s (Err e) = ended h s (stopped e) t

abbrev pub stepping : (Held → Search → Tally → After (Result Ended Told)) → Tally → After (Result Step Told) → After (Result Ended Told)
stepping go t a = goes_on go t a.held a.search a.answer

-- a run with budget b, after the steps t
abbrev pub runs : ℕ → Held → Search → Tally → After (Result Ended Told)
runs zero h s t = looks (λ k. ended h s (stopped (refused 14 0)) t) h s t s.phase (least_false h s.valuation)
runs (suc b) h s t =
    looks
    (λ k. stepping (runs b) t (step_at h s k (entry_at h.entries k)))
    h s t s.phase (least_false h s.valuation)
