-- What a search for a record and an addition of one come to.
use Rattle.std.specs.Prelude.{◌≡◌, ℕ, ◌+◌, ◌<◌, ◌≤◌, List, Ok, Err, Result}
use Rattle.row.specs.declared.Added.{Added}
use Rattle.row.specs.declared.Added.TheVariants.{Held, New, Full}
use Rattle.row.specs.Order.{Seat, Lacks, Holds, seated}

-- the answer of a search for the key k among the first n of xs: the slot of a record, or where one is to be put in
abbrev pub Located : {R : Type 0} → (R → ℕ) → List R → ℕ → ℕ → Result ℕ ℕ → Type 0
Located key xs n k (Ok i) = Holds key xs n k i
Located key xs n k (Err i) = Lacks key xs n k × Seat key xs n k i

-- An addition of x to a row in order: to xs, of which n slots are in use and p may be. It came to the answer and left ys, of which m are in use.
abbrev pub Adds : {R : Type 0} → (R → ℕ) → List R → ℕ → ℕ → R → Added → List R → ℕ → Type 0
Adds key xs n p x (Held i) ys m = Holds key xs n (key x) i × (ys ≡ xs) × (m ≡ n)
Adds key xs n p x (New i) ys m = Lacks key xs n (key x) × Seat key xs n (key x) i × (n < p) × (ys ≡ seated xs n i x) × (m ≡ n + 1)
Adds key xs n p x Full ys m = Lacks key xs n (key x) × (p ≤ n) × (ys ≡ xs) × (m ≡ n)
