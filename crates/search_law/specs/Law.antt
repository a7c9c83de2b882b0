-- What every call of a session keeps, and what its answers say of the accepted clauses.
use Rattle.std.specs.Prelude.{◌≡◌, ℕ, suc, ◌+◌, ◌-◌, ◌*◌, ◌^◌, ◌<◌, ◌≤◌, true, false, ◌⊎◌, List, [], ◌∷◌, ◌++◌, length, ℤ, Some, None, Ok, Err, Result, ◌≢◌}
use Rattle.std.specs.List.{AllByRecursion}
use Rattle.clause.specs.declared.words.Clause.{Clause}
use Rattle.clause.specs.Words.{at, with_atom}
use Rattle.clause.specs.Clauses.{Literals, lits, lit, makes, top, resolvent}
use Rattle.clause.specs.Reading.{reads, clear}
use Rattle.clause.specs.Refusals.{Told, refused}
use Rattle.dimacs.specs.Walk.{Parsed, parse}
use Rattle.store.specs.declared.entry.Entry.{Entry}
use Rattle.store.specs.Held.{Held, Kept, size, clause_at, entry_at, found, full, pushed, after_put, put_answer, least_false}
use Rattle.session.specs.declared.search.Search.{Search}
use Rattle.session.specs.declared.search.Phase.{Phase}
use Rattle.session.specs.declared.search.Phase.TheVariants.{Unopened, Undecided, Satisfied, Refuted}
use Rattle.session.specs.Reports.{Said, satisfiable, unsatisfiable, stopped, Ended, more}
use Rattle.session.specs.Searching.{reason_of}
use Rattle.session.specs.Calls.{due, opened, add, load, run, shown}
use Rattle.search_law.specs.Models.{Makes, Models, Hopeless, Least, peak}

-- c is a reason of p under v: its highest literal is p, positive, and its others are false
pub record Reason (v p : ℕ) (c : Literals) : Type 0 where
  pub high : top c ≡ p
  pub plus : at c.pos p ≡ true
  pub minus : at c.neg p ≡ false
  pub rest : (a : ℕ) → a < p → lit v c a ≡ false

-- what is kept as the reason of p is the number of a held clause that is one
pub record Reasoned (h : Held) (s : Search) (p : ℕ) : Type 0 where
  pub place : ℕ
  pub kept : reason_of s p ≡ Some (suc place)
  pub inside : place < size h
  pub reason : Reason s.valuation p (lits (clause_at h.entries place))

-- c has an atom, none above n, and words of 64 bits
pub record Ordinary (n : ℕ) (c : Literals) : Type 0 where
  pub some : 0 < top c
  pub within : top c ≤ n
  pub pos_fits : c.pos < 2 ^ 64
  pub neg_fits : c.neg < 2 ^ 64

-- what a phase says of the accepted clauses, of what is held and of the valuation
abbrev pub Says : List Clause → Held → ℕ → Phase → Type 0
Says acc h v (Unopened e) = ⊥
Says acc h v Undecided = Unit {0}
Says acc h v Satisfied = Models v h
Says acc h v (Refuted i j) = Hopeless acc

-- 1 in a refuted session: its last derivation put no entry
abbrev pub last_one : Phase → ℕ
last_one (Unopened e) = 0
last_one Undecided = 0
last_one Satisfied = 0
last_one (Refuted i j) = 1

-- what every call keeps, where acc are the accepted clauses
pub record Inv (acc : List Clause) (h : Held) (s : Search) : Type 0 where
  -- the held clauses have the models of the accepted ones
  pub to : (v : ℕ) → Makes v acc → Models v h
  pub fro : (v : ℕ) → Models v h → Makes v acc
  -- exactly the true atoms have reasons
  pub reasons : (p : ℕ) → at s.valuation p ≡ true → Reasoned h s p
  pub none : (p : ℕ) → at s.valuation p ≡ false → reason_of s p ≡ None
  -- a held clause whose highest atom lies below a true atom is true
  pub below : (i p : ℕ) → i < size h → at s.valuation p ≡ true → top (lits (clause_at h.entries i)) < p → makes s.valuation (lits (clause_at h.entries i)) ≡ true
  pub ordinary : (i : ℕ) → i < size h → Ordinary s.atoms (lits (clause_at h.entries i))
  pub says : Says acc h s.valuation s.phase
  -- sizes
  pub few : s.atoms ≤ 64
  pub room : size h ≤ h.places
  pub limit : h.places ≤ 16384
  pub fits : s.valuation < 2 ^ 64
  pub slots : length s.reasons ≡ 64
  -- counts
  pub entries : s.given + s.made.derivations ≡ size h + last_one s.phase
  pub settings : s.made.settings ≤ s.atoms * size h + peak s.valuation

-- what a call leaves: the atoms, the places, and every entry under its number
pub record Onward (h : Held) (s : Search) (h' : Held) (s' : Search) : Type 0 where
  pub atoms : s'.atoms ≡ s.atoms
  pub places : h'.places ≡ h.places
  pub more : List Entry
  pub grown : h'.entries ≡ h.entries ++ more

-- an opening without refusal
abbrev pub OpenLaw : Type 0
OpenLaw = (n : ℕ) (h : Held) → Kept h → due n h ≡ None → Inv [] h (opened n h)

-- an add that answers a number accepts the clause of its literals, which then has that number; one that is refused alters nothing
abbrev pub Added : List Clause → Held → Search → List ℤ → Held → Search → Result ℕ Told → Type 0
Added acc h s ls h' s' (Ok k) =
    Onward h s h' s' × ((c : Clause) × (reads s.atoms 0 clear ls ≡ Ok c) × (found h' c ≡ Some k) × Inv (acc ++ (c ∷ [])) h' s')
Added acc h s ls h' s' (Err e) = (h' ≡ h) × (s' ≡ s)

abbrev pub AddLaw : Type 0
AddLaw = (acc : List Clause) (h : Held) (s : Search) → Inv acc h s → (ls : List ℤ) →
    Added acc h s ls (add h s ls).held (add h s ls).search (add h s ls).answer

-- the clauses cs were accepted one after the other: each of them is held
pub record Loading (acc : List Clause) (h : Held) (s : Search) (cs : List Clause) (h' : Held) (s' : Search) : Type 0 where
  pub keeps : Inv (acc ++ cs) h' s'
  pub onward : Onward h s h' s'
  pub taken : AllByRecursion (λ (c : Clause). (k : ℕ) × (found h' c ≡ Some k)) cs

-- a load is refused for its text, or for want of a place for each of its clauses
abbrev pub Unfit : Held → Result Parsed Told → Told → Type 0
Unfit h (Ok p) e = (e ≡ refused 10 0) × (h.places - size h < length p.clauses)
Unfit h (Err x) e = e ≡ x

-- a load that answers a number accepts so many clauses, all those of its text; one that is refused alters nothing
abbrev pub Loaded : List Clause → Held → Search → List ℕ → Held → Search → Result ℕ Told → Type 0
Loaded acc h s bs h' s' (Ok m) = (p : Parsed) × (parse s.atoms bs ≡ Ok p) × (m ≡ length p.clauses) × Loading acc h s p.clauses h' s'
Loaded acc h s bs h' s' (Err e) = (h' ≡ h) × (s' ≡ s) × Unfit h (parse s.atoms bs) e

abbrev pub LoadLaw : Type 0
LoadLaw = (acc : List Clause) (h : Held) (s : Search) → Inv acc h s → (bs : List ℕ) →
    Loaded acc h s bs (load h s bs).held (load h s bs).search (load h s bs).answer

-- what the end of a run says
abbrev pub Right : List Clause → Held → Search → Said → Type 0
Right acc h s satisfiable = (s.phase ≡ Satisfied) × Least s.valuation acc
Right acc h s unsatisfiable = Hopeless acc
Right acc h s (stopped e) = ((e ≡ refused 10 0) × (size h ≡ h.places)) ⊎ (e ≡ refused 14 0)

-- a budget that is never used up
abbrev pub ample : Held → Search → ℕ
ample h s = (s.atoms + 1) * (h.places - size h + 1)

-- a run that began with h and s and a budget of b ended so
pub record Ending (acc : List Clause) (h : Held) (s : Search) (b : ℕ) (h' : Held) (s' : Search) (e : Ended) : Type 0 where
  pub keeps : Inv acc h' s'
  pub onward : Onward h s h' s'
  pub right : Right acc h' s' e.outcome
  pub unspent : ample h s ≤ b → e.outcome ≢ stopped (refused 14 0)
  -- nothing was given, and the steps told of are those made
  pub given : s'.given ≡ s.given
  pub settings : s'.made.settings ≡ s.made.settings + e.made.settings
  pub derivations : s'.made.derivations ≡ s.made.derivations + e.made.derivations

-- it is refused only for its budget, and then alters nothing
abbrev pub Ran : List Clause → Held → Search → ℕ → Held → Search → Result Ended Told → Type 0
Ran acc h s b h' s' (Ok e) = (b ≤ 2000000) × Ending acc h s b h' s' e
Ran acc h s b h' s' (Err e) = (e ≡ refused 4 0) × (2000000 < b) × (h' ≡ h) × (s' ≡ s)

abbrev pub RunLaw : Type 0
RunLaw = (acc : List Clause) (h : Held) (s : Search) → Inv acc h s → (b : ℕ) →
    Ran acc h s b (run h s b).held (run h s b).search (run h s b).answer

-- such a budget is never refused
abbrev pub AmpleLaw : Type 0
AmpleLaw = (acc : List Clause) (h : Held) (s : Search) → Inv acc h s → ample h s ≤ 2000000

-- what a step derives from the reason of the highest atom of c, the false clause of number k
pub record Derived (h : Held) (s : Search) (k : ℕ) (c : Clause) : Type 0 where
  pub reason : ℕ
  pub entry : Entry
  pub kept : reason_of s (top (lits c)) ≡ Some reason
  pub held : entry_at h.entries reason ≡ Some entry
  -- no atom stands in both signs
  pub clause : Clause
  pub is : resolvent entry.clause c ≡ Some clause
  pub lower : top (lits clause) < top (lits c)
  pub untrue : makes s.valuation (lits clause) ≡ false
  -- it is not held, so where a place is free a put gives it the next number
  pub fresh : found h clause ≡ None
  pub numbered : full h ≡ false → put_answer h (record { clause = clause; first = reason; second = k }) ≡ Ok (size h + 1)
  pub put : full h ≡ false → after_put h (record { clause = clause; first = reason; second = k }) ≡ pushed h (record { clause = clause; first = reason; second = k })

-- the step acts on entry e, of number k: the first false clause
pub record Acts (h : Held) (s : Search) (k : ℕ) (e : Entry) : Type 0 where
  pub first : least_false h s.valuation ≡ Some k
  pub held : entry_at h.entries k ≡ Some e

-- where the highest literal of the first false clause is negative, a clause can be derived
abbrev pub DeriveLaw : Type 0
DeriveLaw = (acc : List Clause) (h : Held) (s : Search) → Inv acc h s → (k : ℕ) (e : Entry) → Acts h s k e →
    at e.clause.positive (top (lits e.clause)) ≡ false → Derived h s k e.clause

-- where it is positive, its atom lies above all true atoms and becomes the highest of them
abbrev pub SettingLaw : Type 0
SettingLaw = (acc : List Clause) (h : Held) (s : Search) → Inv acc h s → (k : ℕ) (e : Entry) → Acts h s k e →
    at e.clause.positive (top (lits e.clause)) ≡ true →
    (peak s.valuation < top (lits e.clause)) × (peak (with_atom s.valuation (top (lits e.clause))) ≡ top (lits e.clause))

-- there is one least valuation
abbrev pub LeastLaw : Type 0
LeastLaw = (cs : List Clause) (v w : ℕ) → Least v cs → Least w cs → v ≡ w

-- what is shown is the least valuation that makes the accepted clauses true
abbrev pub ShowLaw : Type 0
ShowLaw = (acc : List Clause) (h : Held) (s : Search) → Inv acc h s → (v : ℕ) → shown s ≡ Ok v → Least v acc

-- no count comes near 32 bits, so each goes up by one at every step
pub record Exact (h : Held) (s : Search) : Type 0 where
  pub settings : s.made.settings ≤ s.atoms * size h + peak s.valuation
  pub derivations : s.made.derivations ≤ size h + 1
  pub given : s.given ≤ size h + 1
  pub next_setting : more s.made.settings ≡ s.made.settings + 1
  pub next_derivation : more s.made.derivations ≡ s.made.derivations + 1
  pub next_given : more s.given ≡ s.given + 1

abbrev pub CountLaw : Type 0
CountLaw = (acc : List Clause) (h : Held) (s : Search) → Inv acc h s → Exact h s
