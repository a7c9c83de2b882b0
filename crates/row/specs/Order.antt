-- Records in the order of their keys, at the front of a slice.
use Rattle.std.specs.Prelude.{◌≡◌, ℕ, ◌+◌, ◌<◌, ◌≤◌, List, ◌++◌, take, drop, ◌≢◌, slice_index_or}
use Rattle.std.specs.declared.cmp.Ordering.{Ordering}
use Rattle.std.specs.Ordering.{MatchOrdering}
use Rattle.std.specs.List.{insert}

-- r is the answer that compares the numbers a and b
abbrev pub Compares : ℕ → ℕ → Ordering → Type 0
Compares a b r = MatchOrdering r (a < b) (a ≡ b) (b < a)

-- the keys of the first n of xs rise
abbrev pub Ascending : {R : Type 0} → (R → ℕ) → List R → ℕ → Type 0
Ascending {R} key xs n = (i j : ℕ) (d : R) → i < j → j < n → key (slice_index_or xs i d) < key (slice_index_or xs j d)

-- the keys in front of i are less than k
abbrev pub Under : {R : Type 0} → (R → ℕ) → List R → ℕ → ℕ → Type 0
Under {R} key xs i k = (j : ℕ) (d : R) → j < i → key (slice_index_or xs j d) < k

-- the keys from i up to n are not
abbrev pub Over : {R : Type 0} → (R → ℕ) → List R → ℕ → ℕ → ℕ → Type 0
Over {R} key xs i n k = (j : ℕ) (d : R) → i ≤ j → j < n → k ≤ key (slice_index_or xs j d)

-- i is the seat of the key k among the first n of xs: as many come before it
pub record Seat {R : Type 0} (key : R → ℕ) (xs : List R) (n k i : ℕ) : Type 0 where
  pub within : i ≤ n
  pub under : Under key xs i k
  pub over : Over key xs i n k

-- none of the first n of xs has the key k
abbrev pub Lacks : {R : Type 0} → (R → ℕ) → List R → ℕ → ℕ → Type 0
Lacks {R} key xs n k = (j : ℕ) (d : R) → j < n → key (slice_index_or xs j d) ≢ k

-- the record at i, one of the first n of xs, has the key k
abbrev pub Holds : {R : Type 0} → (R → ℕ) → List R → ℕ → ℕ → ℕ → Type 0
Holds {R} key xs n k i = (i < n) × ((d : R) → key (slice_index_or xs i d) ≡ k)

-- xs, of which n are in use, with x put in at i; what lies past the n + 1 in use stays
abbrev pub seated : {R : Type 0} → List R → ℕ → ℕ → R → List R
seated xs n i x = insert (take n xs) i x ++ drop (n + 1) xs
