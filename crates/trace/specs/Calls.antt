-- The trace call: what it answers, and what buffer and marks then hold.
use Rattle.std.specs.Prelude.{ℕ, ◌+◌, ◌*◌, Bool, true, false, ◌&&◌, List, ◌++◌, length, drop, Ok, Err, Result, nat_le}
use Rattle.clause.specs.Refusals.{Told, told, refused}
use Rattle.store.specs.declared.entry.Entry.{Entry}
use Rattle.store.specs.Held.{Held}
use Rattle.session.specs.declared.search.Search.{Search}
use Rattle.session.specs.declared.search.Phase.{Phase}
use Rattle.session.specs.declared.search.Phase.TheVariants.{Unopened, Undecided, Satisfied, Refuted}
use Rattle.trace.specs.Marks.{marks_of}
use Rattle.trace.specs.Lines.{trace}

-- what the buffer and the marks then hold, and what the call answers
pub record Left : Type 0 where
  pub bytes : List ℕ
  pub marks : List ℕ
  pub answer : Result ℕ Told

abbrev pub left : List ℕ → List ℕ → Result ℕ Told → Left
left bs ms a = record { bytes = bs; marks = ms; answer = a }

-- a mark for each of so many entries, and bytes for so many lines, the empty clause and the trailer
abbrev pub has_room : ℕ → List ℕ → List ℕ → Bool
has_room size bs ms = nat_le size (length ms) && nat_le (24 * (size + 2)) (length bs)

-- `new` over the first of `old`; those beyond stay
abbrev pub over : List ℕ → List ℕ → List ℕ
over new old = new ++ drop (length new) old

abbrev pub tracing : ℕ → List Entry → ℕ → ℕ → List ℕ → List ℕ → Bool → Left
tracing n es r c bs ms false = left bs ms (Err (refused 12 0))
tracing n es r c bs ms true = left (over (trace n es r c) bs) (over (marks_of es r c) ms) (Ok (length (trace n es r c)))

abbrev pub trace_in : Held → Search → List ℕ → List ℕ → Phase → Left
trace_in h s bs ms (Unopened e) = left bs ms (Err (told e))
trace_in h s bs ms Undecided = left bs ms (Err (refused 11 0))
trace_in h s bs ms Satisfied = left bs ms (Err (refused 11 0))
trace_in h s bs ms (Refuted r c) = tracing s.atoms h.entries r c bs ms (has_room (length h.entries) bs ms)

-- trace: under an unsatisfiable verdict the trace over the first bytes of the buffer, and the mark of each entry
abbrev pub traced : Held → Search → List ℕ → List ℕ → Left
traced h s bs ms = trace_in h s bs ms s.phase
