-- What the calls on a session answer, and where they leave the session and its store.
use Rattle.std.specs.Prelude.{ℕ, Bool, false, Ok, Err, Option, Result, ◌==◌}
use Rattle.clause.specs.declared.refusal.Refusal.{Refusal}
use Rattle.clause.specs.Refusals.{Told, told}
use Rattle.store.specs.Held.{Held, size, entry_at}
use Rattle.session.specs.declared.search.Search.{Search}
use Rattle.session.specs.Calls.{run}
use Rattle.session.specs.Reports.{Said, satisfiable, unsatisfiable, stopped, said, end_of, Ended}
use Rattle.session.specs.Steps.{After, after}
use Rattle.reply.specs.declared.action.Action.{Action}
use Rattle.reply.specs.declared.answer.Answer.{Answer}
use Rattle.reply.specs.declared.answer.Answer.TheVariants.{Opened, Entry, Ran, Stepped, Shown}
use Rattle.reply.specs.Actions.{action_of}

-- an answer by its values: an opening, the number of an entry, the end of a run, a step with the end of its run,
-- a valuation of so many atoms, or a refusal
pub data Reply : Type 0 where
  opened : Reply
  entered : ℕ → Reply
  ended : Ended → Reply
  stepped : Option Action → Said → Reply
  valued : ℕ → ℕ → Reply
  denied : Told → Reply

abbrev pub reply_in : Answer → Reply
reply_in Opened = opened
reply_in (Entry k) = entered k
reply_in (Ran r) = ended (end_of r)
reply_in (Stepped a o) = stepped a (said o)
reply_in (Shown v) = valued v.word v.atoms

abbrev pub reply_of : Result Answer Refusal → Reply
reply_of (Ok a) = reply_in a
reply_of (Err e) = denied (told e)

abbrev pub add_reply : Result ℕ Told → Reply
add_reply (Ok k) = entered k
add_reply (Err t) = denied t

abbrev pub run_reply : Result Ended Told → Reply
run_reply (Ok e) = ended e
run_reply (Err t) = denied t

-- the valuation, with its n atoms
abbrev pub show_reply : ℕ → Result ℕ Told → Reply
show_reply n (Ok v) = valued v n
show_reply n (Err t) = denied t

-- a run from s that left h and t, told by its step
abbrev pub step_reply : Search → Held → Search → Result Ended Told → Reply
step_reply s h t (Ok e) = stepped (action_of s t e.made (size h) (entry_at h.entries (size h))) e.outcome
step_reply s h t (Err x) = denied x

-- a call with its answer as a reply
abbrev pub replied : {X : Type 0} → (X → Reply) → After X → After Reply
replied f a = after a.held a.search (f a.answer)

-- a run with budget 1, told by its step
abbrev pub stepped_once : Held → Search → After Reply
stepped_once h s = after (run h s 1).held (run h s 1).search (step_reply s (run h s 1).held (run h s 1).search (run h s 1).answer)

abbrev pub spent_said : Said → Bool
spent_said satisfiable = false
spent_said unsatisfiable = false
spent_said (stopped t) = t.number == 14

-- the run ended by its budget
abbrev pub spent : Reply → Bool
spent opened = false
spent (entered k) = false
spent (ended e) = spent_said e.outcome
spent (stepped a o) = spent_said o
spent (valued v n) = false
spent (denied t) = false
