-- The step that a session made, found from what it keeps before and after.
use Rattle.std.specs.Prelude.{◌≡◌, ℕ, zero, suc, ◌<◌, ◌≤◌, false, cond, not, ◌&&◌, length, Some, None, Option, nat_lt}
use Rattle.clause.specs.Words.{at}
use Rattle.store.specs.declared.entry.Entry.{Entry}
use Rattle.session.specs.declared.report.Tally.{Tally}
use Rattle.session.specs.declared.search.Phase.{Phase}
use Rattle.session.specs.declared.search.Phase.TheVariants.{Unopened, Undecided, Satisfied, Refuted}
use Rattle.session.specs.declared.search.Search.{Search}
use Rattle.session.specs.Searching.{reason_of, setting}
use Rattle.reply.specs.declared.action.Action.{Action}
use Rattle.reply.specs.declared.action.Action.TheVariants.{Set, Derive, Refute}

-- the highest of atoms 1 to k that stands in w and not in v, 0 where none does
unfoldable pub gained_to : ℕ → ℕ → ℕ → ℕ
gained_to zero v w = 0
gained_to (suc k) v w = cond (at w (suc k) && not (at v (suc k))) (suc k) (gained_to k v w)

abbrev pub set_by : ℕ → Option ℕ → Option Action
set_by p (Some k) = Some (Set p k)
set_by p None = None

abbrev pub deriving_last : ℕ → Option Entry → Option Action
deriving_last size (Some e) = Some (Derive size e)
deriving_last size None = None

-- a refuted session keeps its pair; else the last entry, of number size, was derived
abbrev pub derived_by : Phase → ℕ → Option Entry → Option Action
derived_by (Refuted i j) size last = Some (Refute i j)
derived_by (Unopened e) size last = deriving_last size last
derived_by Undecided size last = deriving_last size last
derived_by Satisfied size last = deriving_last size last

abbrev pub set_in : Search → ℕ → Option Action
set_in t p = set_by p (reason_of t p)

-- from s to t, by the steps made: a setting of the atom that became true, a derivation, or nothing
abbrev pub action_of : Search → Search → Tally → ℕ → Option Entry → Option Action
action_of s t made size last =
    cond (nat_lt 0 made.settings) (set_in t (gained_to 64 s.valuation t.valuation))
    (cond (nat_lt 0 made.derivations) (derived_by t.phase size last) None)

-- a setting of an atom p that was false, by entry k, is named as such
abbrev pub NamesSettings : Search → Search → Tally → Option Action → Type 0
NamesSettings s t made r =
    (p k : ℕ) → 0 < p → p ≤ 64 → at s.valuation p ≡ false → length s.reasons ≡ 64 → t ≡ setting s p k → 0 < made.settings → r ≡ Some (Set p k)
