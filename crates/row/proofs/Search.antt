-- What a binary search among records in order finds.
use Rattle.std.proofs.Common.{◌≡◌, ℕ, ◌<◌, ◌≤◌, Ordering, Less, Equal, Greater, List, length, get_or, take, Ok, Err, Result, sym, ap, subst, ◌∙◌, inl, inr, arith}
use Rattle.std.specs.List.Sorted.{IsNonDecreasingBy, IsSearchInRange, IsBinarySearchResult}
use Rattle.std.specs.Ordering.{MatchOrdering, nat_cmp, ordering_index}
use Rattle.std.proofs.lemmas.Bool.{cases_lt}
use Rattle.std.proofs.lemmas.Bool.Decides.{nat_tests}
use Rattle.std.proofs.lemmas.Cmp.{ranked}
use Rattle.std.proofs.lemmas.List.{length-take-le, get_or-take}
use Rattle.row.specs.Order.{Compares, Ascending, Under, Seat, Holds}
use Rattle.row.specs.Adds.{Located}

-- the order of an answer as a number rises with the number compared
index_rises : (a b k : ℕ) → a ≤ b → ordering_index (nat_cmp a k) ≤ ordering_index (nat_cmp b k)
index_rises a b k h = grind (arith, nat_tests)

-- an answer that compares two numbers is the comparison of them
pub answers : (a b : ℕ) (r : Ordering) → Compares a b r → r ≡ nat_cmp a b
answers a b Less h = grind (arith, nat_tests, h)
answers a b Equal h = grind (arith, nat_tests, h)
answers a b Greater h = grind (arith, nat_tests, h)

-- the comparison of a record by its key with the key k
abbrev pub against : {R : Type 0} → (R → ℕ) → ℕ → R → Ordering
against key k y = nat_cmp (key y) k

module _ {R : Type 0} (key : R → ℕ) (xs : List R) (n : ℕ) (l : n ≤ length xs) (up : Ascending key xs n) (x : R) where
  -- what the comparison with x of the record at j says of the keys
  compared : (j : ℕ) (d : R) (o : Ordering) → j < n → against key (key x) (get_or (take n xs) j d) ≡ o → MatchOrdering o (key (get_or xs j d) < key x) (key (get_or xs j d) ≡ key x) (key x < key (get_or xs j d))
  compared j d o b e = ranked _ _ o (sym e ∙ ap (λ y. nat_cmp (key y) (key x)) (get_or-take n xs j d b))

  -- the comparisons with x rise along the records, as a binary search asks
  comparisons_rise : IsNonDecreasingBy (λ y. ordering_index (against key (key x) y)) (take n xs)
  comparisons_rise i j d a b =
      let t = length-take-le n xs l in
      let bi : i < n = omega arith in
      let bj : j < n = omega arith in
      let keys_rise : key (get_or xs i d) ≤ key (get_or xs j d) = grind (arith, up i j d, λ (same : i ≡ j). ap (λ k. key (get_or xs k d)) same) in
      rw (get_or-take n xs i d bi, get_or-take n xs j d bj) (index_rises _ _ _ keys_rise)

  -- r is the answer of a binary search among the records ys
  pub located : (ys : List R) → ys ≡ take n xs → (r : Result ℕ ℕ) → IsSearchInRange r (length ys) → IsBinarySearchResult (against key (key x)) ys r → Located key xs n (key x) r
  located ys e r w s = found r (subst (λ zs. IsSearchInRange r (length zs)) e w) (subst (λ zs. IsBinarySearchResult (against key (key x)) zs r) e s)
    where
      t : length (take n xs) ≡ n
      t = length-take-le n xs l

      found : (r : Result ℕ ℕ) → IsSearchInRange r (length (take n xs)) → IsBinarySearchResult (against key (key x)) (take n xs) r → Located key xs n (key x) r
      found (Ok i) w e = let b : i < n = omega (arith, t) in (b, λ d. compared i d Equal b (e d))
      found (Err i) w p =
          let within : i ≤ n = omega (arith, t) in
          let q = p comparisons_rise in
          let under : Under key xs i (key x) = λ j d b. compared j d Less (omega arith) (q.0 j d (omega arith) b) in
          let above : (j : ℕ) (d : R) → i ≤ j → j < n → key x < key (get_or xs j d) = λ j d a b. compared j d Greater b (q.1 j d a (omega (arith, t))) in (
            λ j d b same. elim (cases_lt j i) [ inl s ↦ omega (arith, under j d s) | inr s ↦ omega (arith, above j d s b) ],
            record { within = within; under = under; over = λ j d a b. omega (arith, above j d a b) },
          )

-- the record with the key k stands in the seat of k
pub seat_of : {R : Type 0} (key : R → ℕ) (xs : List R) (n k i : ℕ) → Ascending key xs n → Holds key xs n k i → Seat key xs n k i
seat_of key xs n k i up h = record {
  within = omega (arith, h.0);
  under = λ j d b. omega (arith, up j i d b h.0, h.1 d);
  over = λ j d a b. grind (arith, up i j d, h.1 d, λ (same : i ≡ j). ap (λ m. key (get_or xs m d)) same);
}
