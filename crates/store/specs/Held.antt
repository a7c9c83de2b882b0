-- The meaning of a clause store, and what its calls answer.
use Rattle.std.specs.Prelude.{◌≡◌, ℕ, zero, suc, ◌+◌, ◌<◌, ◌≤◌, Bool, false, cond, List, [], ◌∷◌, ◌++◌, length, Some, None, Ok, Err, Option, Result, ◌==◌, nat_lt, slice_index_or}
use Rattle.std.specs.List.{slice_get}
use Rattle.clause.specs.declared.words.Clause.{Clause}
use Rattle.clause.specs.Clauses.{lits, makes, same}
use Rattle.clause.specs.Order.{rank}
use Rattle.clause.specs.Reading.{clear}
use Rattle.clause.specs.Refusals.{Told, refused}
use Rattle.store.specs.declared.entry.Entry.{Entry}

-- what a store stands for: its entries in order of arrival, and its count of places
pub record Held : Type 0 where
  pub entries : List Entry
  pub places : ℕ

abbrev pub size : Held → ℕ
size h = length h.entries

-- entry k, from 1
abbrev pub entry_at : List Entry → ℕ → Option Entry
entry_at es zero = None
entry_at es (suc k) = slice_get es k

abbrev pub blank : Entry
blank = record { clause = clear; first = 0; second = 0 }

-- the clause at index i, from 0
abbrev pub clause_at : List Entry → ℕ → Clause
clause_at es i = (slice_index_or es i blank).clause

-- the number of the first entry with the clause c, where the first of es has number n
unfoldable pub find_from : ℕ → List Entry → Clause → Option ℕ
find_from n [] c = None
find_from n (e ∷ es) c = cond (same e.clause c) (Some n) (find_from (n + 1) es c)

-- the number of the clause c
abbrev pub found : Held → Clause → Option ℕ
found h c = find_from 1 h.entries c

-- one entry more
abbrev pub pushed : Held → Entry → Held
pushed h e = record { entries = h.entries ++ (e ∷ []); places = h.places }

abbrev pub full : Held → Bool
full h = length h.entries == h.places

abbrev pub after_put_at : Held → Entry → Option ℕ → Held
after_put_at h e (Some k) = h
after_put_at h e None = cond (full h) h (pushed h e)

-- the store after a put of e
abbrev pub after_put : Held → Entry → Held
after_put h e = after_put_at h e (found h e.clause)

abbrev pub put_answer_at : Held → Option ℕ → Result ℕ Told
put_answer_at h (Some k) = Ok k
put_answer_at h None = cond (full h) (Err (refused 10 0)) (Ok (length h.entries + 1))

-- what a put of e answers
abbrev pub put_answer : Held → Entry → Result ℕ Told
put_answer h e = put_answer_at h (found h e.clause)

-- a clause with its number
pub record Pick : Type 0 where
  pub number : ℕ
  pub clause : Clause

-- the earlier of two in clause order
abbrev pub earlier : Pick → Option Pick → Pick
earlier new None = new
earlier new (Some old) = cond (nat_lt (rank (lits old.clause)) (rank (lits new.clause))) old new

-- the first in clause order of the clauses of es that v does not make true, where the first of es has number n
unfoldable pub least_from : ℕ → List Entry → ℕ → Option Pick
least_from n [] v = None
least_from n (e ∷ es) v =
    cond (makes v (lits e.clause)) (least_from (n + 1) es v)
    (Some (earlier (record { number = n; clause = e.clause }) (least_from (n + 1) es v)))

abbrev pub number_of : Option Pick → Option ℕ
number_of None = None
number_of (Some p) = Some p.number

-- the number of the first clause in clause order that v does not make true
abbrev pub least_false : Held → ℕ → Option ℕ
least_false h v = number_of (least_from 1 h.entries v)

-- what every store keeps: entries within the places, few places, and no clause twice
pub record Kept (h : Held) : Type 0 where
  pub within : length h.entries ≤ h.places
  pub few : h.places ≤ 16384
  pub single : (i j : ℕ) → i < j → j < length h.entries → same (clause_at h.entries i) (clause_at h.entries j) ≡ false
