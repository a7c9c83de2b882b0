-- The calls of a session, and where its lines end.
use Rattle.std.specs.Prelude.{ℕ, zero, suc, ◌+◌, ◌-◌, ◌^◌, min, Bool, true, false, cond, List, [], ◌∷◌, Some, None, vec_items, Option}
use Rattle.store.specs.Held.{Held}
use Rattle.session.specs.declared.search.Search.{Search}
use Rattle.session.specs.Calls.{add, run}
use Rattle.session.specs.Steps.{After, after}
use Rattle.script.specs.declared.request.Call.{Call}
use Rattle.script.specs.declared.request.Call.TheVariants.{Add, Run, Walk, Show, Counts}
use Rattle.script.specs.declared.request.Request.{Request}
use Rattle.script.specs.declared.request.Request.TheVariants.{Open, Ask}
use Rattle.script.specs.declared.text.Line.{Line}
use Rattle.reply.specs.Replies.{stepped_once, spent}

-- the line opens a session
abbrev pub opening : Option Request → Bool
opening (Some (Open n p)) = true
opening (Some (Ask c)) = false
opening None = false

-- how many lines come before the next that opens a session
unfoldable pub until_open : List Line → ℕ
until_open [] = 0
until_open (l ∷ ls) = cond (opening l.request) 0 (suc (until_open ls))

-- the number of the next item, in 64 bits
abbrev pub next : ℕ → ℕ
next n = min (n + 1) (2 ^ 64 - 1)

-- at most b runs with budget 1, until one ends otherwise than by its budget; n items before them
abbrev pub walked : ℕ → Held → Search → ℕ → After ℕ
walked zero h s n = after h s n
walked (suc b) h s n =
    cond (spent (stepped_once h s).answer) (walked b (stepped_once h s).held (stepped_once h s).search (next n))
    (after (stepped_once h s).held (stepped_once h s).search (next n))

-- a call after n items: where it leaves session and store, and how many items there are then
abbrev pub performed : Held → Search → ℕ → Call → After ℕ
performed h s n (Add ls) = after (add h s (vec_items ls)).held (add h s (vec_items ls)).search (next n)
performed h s n (Run b) = after (run h s b).held (run h s b).search (next n)
performed h s n (Walk b) = walked b h s n
performed h s n Show = after h s (next n)
performed h s n Counts = after h s n

abbrev pub attended_at : (Held → Search → ℕ → After ℕ) → Option Request → Held → Search → ℕ → After ℕ
attended_at go (Some (Open k p)) h s n = after h s n
attended_at go (Some (Ask c)) h s n = go (performed h s n c).held (performed h s n c).search (performed h s n c).answer
attended_at go None h s n = go h s n

-- the calls of the lines in order, up to the next line that opens a session; a line that is no request is passed over
unfoldable pub attended : List Line → Held → Search → ℕ → After ℕ
attended [] h s n = after h s n
attended (l ∷ ls) h s n = attended_at (attended ls) l.request h s n
