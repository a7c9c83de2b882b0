-- Records in clause order, and the seat of each entry among them.
use Rattle.std.specs.Prelude.{◌≡◌, ℕ, zero, suc, ◌+◌, ◌-◌, ◌<◌, ◌≤◌, Bool, true, false, cond, not, List, [], ◌∷◌, ◌++◌, length, get_or, drop, nat_le, slice_index, slice_index_or}
use Rattle.std.proofs.Common.{lit<}
use Rattle.clause.specs.Clauses.{lits, makes}
use Rattle.clause.specs.Order.{rank}
use Rattle.clause.specs.Reading.{clear}
use Rattle.store.specs.declared.entry.Entry.{Entry}
use Rattle.store.specs.Held.{Held}
use Rattle.row.specs.declared.Added.{Added}
use Rattle.row.specs.Order.{Ascending}
use Rattle.row.specs.Adds.{Adds}
use Rattle.row_store.specs.declared.slot.Slot.{Slot}

-- a record that holds nothing
abbrev pub vacant : Slot
vacant = record { clause = clear; first = 0; second = 0; number = 0; words = (lit< tt, lit< tt) }

-- x holds nothing: no literal and no number
abbrev pub Vacant : Slot → Type 0
Vacant x = (lits x.clause ≡ lits clear) × (x.first ≡ 0) × (x.second ≡ 0) × (x.number ≡ 0)

-- the entry that a record holds
abbrev pub entry_of : Slot → Entry
entry_of x = record { clause = x.clause; first = x.first; second = x.second }

-- where a record stands in clause order
abbrev pub place : Slot → ℕ
place x = rank (lits x.clause)

-- the record of the entry with index k, from 0: the one in its seat
abbrev pub sitting : List Slot → List ℕ → ℕ → Slot
sitting xs ss k = slice_index_or xs (slice_index ss k) vacant

-- the first n entries in order of arrival
unfoldable pub arrivals : List Slot → List ℕ → ℕ → List Entry
arrivals xs ss zero = []
arrivals xs ss (suc k) = arrivals xs ss k ++ (entry_of (sitting xs ss k) ∷ [])

-- what the store stands for: n records in xs with their seats in ss, and p places
abbrev pub held_of : List Slot → List ℕ → ℕ → ℕ → Held
held_of xs ss n p = record { entries = arrivals xs ss n; places = p }

-- each of n entries has a seat among the n records
abbrev pub Seated : List ℕ → ℕ → Type 0
Seated ss n = (k : ℕ) → k < n → slice_index ss k < n

-- the record in a seat has the number of its entry
abbrev pub Named : List Slot → List ℕ → ℕ → Type 0
Named xs ss n = (k : ℕ) → k < n → (sitting xs ss k).number ≡ k + 1

-- each of the n records has one of the numbers 1 to n
abbrev pub Counted : List Slot → ℕ → Type 0
Counted xs n = (i : ℕ) → i < n → (0 < (get_or xs i vacant).number) × ((get_or xs i vacant).number ≤ n)

-- and stands in the seat of its number
abbrev pub Returned : List Slot → List ℕ → ℕ → Type 0
Returned xs ss n = (i : ℕ) → i < n → slice_index ss ((get_or xs i vacant).number - 1) ≡ i

-- n records in clause order in xs, their seats in ss, and p places for them
pub record Ordered (xs : List Slot) (ss : List ℕ) (n p : ℕ) : Type 0 where
  pub within : n ≤ p
  pub fits : p ≤ length xs
  pub benches : p ≤ length ss
  pub few : p ≤ 16384
  pub rising : Ascending place xs n
  pub seated : Seated ss n
  pub named : Named xs ss n
  pub counted : Counted xs n
  pub returned : Returned xs ss n

-- An addition of the entry e with the number k to the records of xs, of which n are in use and p may be, came to the answer and left ys, of which m are in use and q may be.
pub record Enters (xs : List Slot) (n p : ℕ) (e : Entry) (k : ℕ) (r : Added) (ys : List Slot) (m q : ℕ) : Type 0 where
  pub slot : Slot
  pub entry : entry_of slot ≡ e
  pub number : slot.number ≡ k
  pub adds : Adds place xs n p slot r ys m
  pub places : q ≡ p
  pub beyond : drop p ys ≡ drop p xs

-- a seat once a record has been put in at i
abbrev pub moved : ℕ → ℕ → ℕ
moved i s = cond (nat_le i s) (s + 1) s

-- the n seats of ss once a record has been put in at i, whose own seat comes last
pub record MakesWay (ss : List ℕ) (n i : ℕ) (ts : List ℕ) : Type 0 where
  pub same_length : length ts ≡ length ss
  pub others : (k : ℕ) → k < n → slice_index ts k ≡ moved i (slice_index ss k)
  pub own : get_or ts n 0 ≡ i
  pub beyond : drop (n + 1) ts ≡ drop (n + 1) ss

-- v does not make the clause of x true
abbrev pub fails : ℕ → Slot → Bool
fails v x = not (makes v (lits x.clause))

-- v makes the clauses of xs from i up to j true
abbrev pub AllTrue : List Slot → ℕ → ℕ → ℕ → Type 0
AllTrue xs i j v = (k : ℕ) → i ≤ k → k < j → fails v (slice_index_or xs k vacant) ≡ false

-- i is the first of xs, from `from` on, whose clause v does not make true
abbrev pub FirstFalse : List Slot → ℕ → ℕ → ℕ → Type 0
FirstFalse xs from v i = (i < length xs) × (from ≤ i) × (fails v (slice_index_or xs i vacant) ≡ true) × AllTrue xs from i v
