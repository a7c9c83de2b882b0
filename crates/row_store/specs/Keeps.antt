-- A store whose records and seats are right keeps what every store keeps: the store's ghost member cites this.
use Rattle.std.specs.Prelude.{◌≡◌, ℕ, zero, suc, ◌<◌, List, [], ◌∷◌, length, get_or, ◌≢◌, slice_index, slice_index_or, refl}
use Rattle.std.proofs.Common.{sym, ap, ◌∙◌, inl, inr, arith}
use Rattle.std.proofs.lemmas.List.{length_push, get_or_push, get_or_append_left}
use Rattle.std.proofs.lemmas.Bool.{cases_lt, cases_order}
use Rattle.clause.specs.Clauses.{lits}
use Rattle.clause.specs.Order.{rank}
use Rattle.store.specs.declared.entry.Entry.{Entry}
use Rattle.store.specs.Held.{Kept, clause_at, blank}
use Rattle.store.proofs.Sames.{other_rank}
use Rattle.row_store.specs.declared.slot.Slot.{Slot}
use Rattle.row_store.specs.Seats.{vacant, entry_of, place, sitting, arrivals, held_of, Ordered}

pub length_arrivals : (xs : List Slot) (ss : List ℕ) (n : ℕ) → length (arrivals xs ss n) ≡ n
unfolding arrivals
length_arrivals xs ss zero = refl
length_arrivals xs ss (suc n) = omega (arith, length_push (arrivals xs ss n) (entry_of (sitting xs ss n)), length_arrivals xs ss n)

pub get_or_arrivals : (xs : List Slot) (ss : List ℕ) (n k : ℕ) (d : Entry) → k < n → slice_index_or (arrivals xs ss n) k d ≡ entry_of (sitting xs ss k)
unfolding arrivals
get_or_arrivals xs ss zero k d l = absurd (omega arith)
get_or_arrivals xs ss (suc n) k d l =
    let h = length_arrivals xs ss n in
    let ih = get_or_arrivals xs ss n k d in
    elim (cases_lt k n) [
      | inl b ↦ get_or_append_left (arrivals xs ss n) (entry_of (sitting xs ss n) ∷ []) d k (omega arith) ∙ ih b
      | inr b ↦ let e : k ≡ n = omega arith in get_or_push (arrivals xs ss n) (entry_of (sitting xs ss n)) d k (omega arith) ∙ ap (λ j. entry_of (sitting xs ss j)) (sym e)
    ]

module _ (xs : List Slot) (ss : List ℕ) (n p : ℕ) (o : Ordered xs ss n p) where
  -- the clause of the entry with index k
  pub clause_at_lem : (k : ℕ) → k < n → clause_at (arrivals xs ss n) k ≡ (sitting xs ss k).clause
  clause_at_lem k l = ap (λ e. e.clause) (get_or_arrivals xs ss n k blank l)

  pub rank_at : (k : ℕ) → k < n → rank (lits (clause_at (arrivals xs ss n) k)) ≡ place (slice_index_or xs (slice_index ss k) vacant)
  rank_at k l = ap (λ c. rank (lits c)) (clause_at_lem k l)

  -- two seats differ
  pub seats_apart : (j k : ℕ) → j < n → k < n → (j ≢ k) → slice_index ss j ≢ slice_index ss k
  seats_apart j k a b f e = f (omega (arith, o.named j a, o.named k b, ap (λ s. (get_or xs s vacant).number) e))

  -- two records differ
  pub places_apart : (i j : ℕ) → i < n → j < n → (i ≢ j) → place (slice_index_or xs i vacant) ≢ place (slice_index_or xs j vacant)
  places_apart i j a b f e = elim (cases_order i j) [
    | inl q ↦ f q
    | inr q ↦ elim q [ inl l ↦ omega (arith, o.rising i j vacant l b) | inr l ↦ omega (arith, o.rising j i vacant l a) ]
  ]

  pub keeps : Kept (held_of xs ss n p)
  keeps = record {
    within = omega (arith, length_arrivals xs ss n, o.within);
    few = o.few;
    single = λ i j l h.
        let b : j < n = omega (arith, length_arrivals xs ss n) in
        let a : i < n = omega arith in
        other_rank (clause_at (arrivals xs ss n) i) (clause_at (arrivals xs ss n) j) (λ e. places_apart (slice_index ss i) (slice_index ss j) (o.seated i a) (o.seated j b) (seats_apart i j a b (λ q. omega arith)) (sym (rank_at i a) ∙ e ∙ rank_at j b));
  }
