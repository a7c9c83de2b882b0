-- Which clauses are put, in which order they arrive, and what both stores are then known to answer.
use Rattle.std.specs.Prelude.{◌≡◌, ℕ, ◌+◌, ◌-◌, ◌*◌, ◌/◌, ◌%◌, ◌^◌, ◌<◌, ◌≤◌, min, Bool, true, false, cond, not, ◌&&◌, List, length, Some, None, Ok, Err, Option, Result, is_some, ◌==◌, bit_xor, slice_index}
use Rattle.std.specs.List.{find, slice_get}
use Rattle.clause.specs.Clauses.{lits, makes, same}
use Rattle.clause.specs.Refusals.{Told}
use Rattle.store.specs.declared.entry.Entry.{Entry}
use Rattle.nth_clause.specs.Digits.{nth}
use Rattle.store_orders.specs.declared.arrivals.Order.{Order}
use Rattle.store_orders.specs.declared.arrivals.Order.TheVariants.{Ascending, Descending, Alternating, Random}
use Rattle.store_orders.specs.declared.looks.Placed.{Placed}

-- the number among all clauses of the clause that stands at place j, from 0, among those that are put
abbrev pub number_at : ℕ → ℕ
number_at j = 59049 + 5 * j

-- the last place
abbrev pub last : ℕ
last = 16383

-- the lowest, the highest, the next lowest, and so on
abbrev pub inwards : ℕ → ℕ
inwards i = cond (i % 2 == 0) (i / 2) (last - i / 2)

-- the place of the i-th to arrive, before a shuffle
abbrev pub place_of : Order → ℕ → ℕ
place_of Ascending i = i
place_of Descending i = last - i
place_of Alternating i = inwards i
place_of Random i = i

-- a word of 64 bits with itself shifted up, or down, by k
abbrev pub mixed_up : ℕ → ℕ → ℕ
mixed_up k x = bit_xor x (x * 2 ^ k % 2 ^ 64)

abbrev pub mixed_down : ℕ → ℕ → ℕ
mixed_down k x = bit_xor x (x / 2 ^ k)

-- the number of a clause, nothing where there is none
abbrev pub number_of : Option Placed → Option ℕ
number_of None = None
number_of (Some p) = p.number

-- the number of the clause at place j
abbrev pub known_number : List Placed → ℕ → Option ℕ
known_number ps j = number_of (slice_get ps j)

-- entry k is the clause at its place, with its number and its place for antecedents
pub record IsEntry (places : List ℕ) (k : ℕ) (e : Entry) : Type 0 where
  pub clause : lits e.clause ≡ nth (number_at (slice_index places (k - 1)))
  pub first : e.first ≡ k
  pub second : e.second ≡ slice_index places (k - 1)

-- k is no number of the entries that have these places
abbrev pub NoEntry : List ℕ → ℕ → Type 0
NoEntry places k = 0 < k → k ≤ length places → ⊥

-- the clause of p was put and is false
abbrev pub counts : ℕ → Placed → Bool
counts v p = is_some p.number && not (makes v (lits p.clause))

-- the number of the first clause in clause order that was put and is false
abbrev pub first_known : ℕ → List Placed → Option ℕ
first_known v ps = number_of (find (counts v) ps)

abbrev pub same_entry : Entry → Entry → Bool
same_entry a b = same a.clause b.clause && (a.first == b.first && a.second == b.second)

-- two answers are the same entry, or both none
abbrev pub same_entries : Option Entry → Option Entry → Bool
same_entries None None = true
same_entries None (Some b) = false
same_entries (Some a) None = false
same_entries (Some a) (Some b) = same_entry a b

-- a put answers the number, or refusal 10 for none
abbrev pub is_due : Result ℕ Told → Option ℕ → Bool
is_due (Ok k) (Some n) = k == n
is_due (Err t) None = t.number == 10
is_due (Ok k) None = false
is_due (Err t) (Some n) = false

-- one more, in 64 bits
abbrev pub next : ℕ → ℕ
next n = min (n + 1) (2 ^ 64 - 1)
