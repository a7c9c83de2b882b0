-- Clauses numbered in clause order: the digits of a number in base 3, from the lowest, say how atoms 1, 2, .. are treated: 0 absent, 1 positive, 2 negative.
use Rattle.std.specs.Prelude.{◌≡◌, ℕ, zero, suc, ◌+◌, ◌-◌, ◌*◌, ◌/◌, ◌%◌, ◌^◌, ◌<◌, min, cond, List, ◌==◌, slice_index_or}
use Rattle.clause.specs.declared.words.Clause.{Clause}
use Rattle.clause.specs.Clauses.{Literals, lits}
use Rattle.clause.specs.Order.{Before}

-- 1 where the lowest digit of k is d, else 0
abbrev pub unit : ℕ → ℕ → ℕ
unit d k = cond (k % 3 == d) 1 0

-- the word of the atoms, of the first n, whose digit in k is d
unfoldable pub word : ℕ → ℕ → ℕ → ℕ
word d zero k = 0
word d (suc n) k = 2 * word d n (k / 3) + unit d k

-- clause k, from 0; a number of 32 bits has at most 21 digits
abbrev pub nth : ℕ → Literals
nth k = record { pos = word 1 21 k; neg = word 2 21 k }

-- the order of clauses is the order of their numbers
abbrev pub InOrder : Type 0
InOrder = (j k : ℕ) → j < k → k < 3 ^ 21 → Before (nth j) (nth k)

-- the number of the clause at place j of every fifth from number `first` on, in 32 bits
abbrev pub fifth_number : ℕ → ℕ → ℕ
fifth_number first j = min (first + 5 * j) (2 ^ 32 - 1)

-- the clauses of cs, from index 0 to n - 1, are every fifth clause from number `first` on
abbrev pub AtPlaces : ℕ → List Clause → ℕ → Type 0
AtPlaces first cs n = (j : ℕ) (d : Clause) → j < n → lits (slice_index_or cs j d) ≡ nth (fifth_number first j)
