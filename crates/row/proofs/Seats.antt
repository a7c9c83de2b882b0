-- What a record put into its seat leaves.
use Rattle.std.proofs.Common.{◌≡◌, ℕ, suc, ◌+◌, ◌-◌, ◌<◌, ◌≤◌, ◌⊎◌, List, [], ◌∷◌, ◌++◌, length, get_or, take, drop, set, sym, refl, ap, ◌∙◌, subst, ap₂, inl, inr, append_assoc, arith, length-append, length-drop}
use lib.Seq.{paste}
use Rattle.std.proofs.lemmas.List.{take-take, drop_all, set_split, set-append_left, length-take-le, get_or_append_left, get_or-take}
use Rattle.std.proofs.lemmas.Slice.{between_is, drop-append-drop}
use Rattle.std.proofs.lemmas.Bool.{cases_order}
use Rattle.std.proofs.lemmas.List.Edits.{length-insert, get_or-insert_below, get_or-insert_at, get_or-insert_above}
use Rattle.std.specs.List.{insert}
use Rattle.row.specs.Order.{seated, Ascending, Seat, Lacks}

-- the records from i on moved up by one, and x written at i
pub shifted : {X : Type 0} (xs : List X) (n i : ℕ) (x : X) → i ≤ n → n < length xs → set (paste xs (i + 1) (drop i xs) (n - i)) i x ≡ seated xs n i x
shifted xs n i x l h =
    let k : length (take (i + 1) xs) ≡ i + 1 = length-take-le (i + 1) xs (omega arith) in
    let front : set (take (i + 1) xs) i x ≡ take i (take n xs) ++ x ∷ [] =
    set_split (take (i + 1) xs) i x (omega arith)
    ∙ ap₂ (λ a b. a ++ x ∷ b) (take-take i (i + 1) xs (omega arith) ∙ sym (take-take i n xs l)) (drop_all (suc i) (take (i + 1) xs) (omega arith)) in
    let e : i + 1 + (n - i) ≡ n + 1 = omega arith in
    set-append_left (take (i + 1) xs ++ take (n - i) (drop i xs)) (drop (i + 1 + (n - i)) xs) i x (omega (arith, length-append (take (i + 1) xs) (take (n - i) (drop i xs))))
    ∙ ap₂ (λ a b. a ++ b)
    (set-append_left (take (i + 1) xs) (take (n - i) (drop i xs)) i x (omega arith)
    ∙ ap₂ (λ a b. a ++ b) front (between_is xs i n) ∙ append_assoc (take i (take n xs)) (x ∷ []) (drop i (take n xs)))
    (ap (λ k. drop k xs) e)

-- the records after x is put in at i, by their places
in_front : {R : Type 0} (xs : List R) (n i : ℕ) (x d : R) (j : ℕ) → i ≤ n → n < length xs → j < n + 1 → get_or (seated xs n i x) j d ≡ get_or (insert (take n xs) i x) j d
in_front xs n i x d j l h b =
    let t = length-take-le n xs (omega arith) in
    get_or_append_left (insert (take n xs) i x) (drop (n + 1) xs) d j (omega (arith, length-insert (take n xs) i x (omega arith)))

pub below_seat : {R : Type 0} (xs : List R) (n i : ℕ) (x d : R) (j : ℕ) → i ≤ n → n < length xs → j < i → get_or (seated xs n i x) j d ≡ get_or xs j d
below_seat xs n i x d j l h b =
    let t = length-take-le n xs (omega arith) in
    in_front xs n i x d j l h (omega arith) ∙ get_or-insert_below (take n xs) i x d j b (omega arith) ∙ get_or-take n xs j d (omega arith)

pub at_seat : {R : Type 0} (xs : List R) (n i : ℕ) (x d : R) → i ≤ n → n < length xs → get_or (seated xs n i x) i d ≡ x
at_seat xs n i x d l h =
    let t = length-take-le n xs (omega arith) in in_front xs n i x d i l h (omega arith) ∙ get_or-insert_at (take n xs) i x d (omega arith)

pub above_seat : {R : Type 0} (xs : List R) (n i : ℕ) (x d : R) (j : ℕ) → i ≤ n → n < length xs → i ≤ j → j < n → get_or (seated xs n i x) (j + 1) d ≡ get_or xs j d
above_seat xs n i x d j l h b u =
    let t = length-take-le n xs (omega arith) in
    in_front xs n i x d (j + 1) l h (omega arith) ∙ get_or-insert_above (take n xs) i x d j b (omega arith) ∙ get_or-take n xs j d u

-- where the record at j came from: it is the old one at j or at j - 1, or x
abbrev pub Came : {R : Type 0} → List R → ℕ → ℕ → R → R → ℕ → Type 0
Came xs n i x d j = ((j < i) × (get_or (seated xs n i x) j d ≡ get_or xs j d)) ⊎ (((j ≡ i) × (get_or (seated xs n i x) j d ≡ x))
    ⊎ ((k : ℕ) × (i ≤ k) × (j ≡ k + 1) × (get_or (seated xs n i x) j d ≡ get_or xs k d)))

pub came : {R : Type 0} (xs : List R) (n i : ℕ) (x d : R) (j : ℕ) → i ≤ n → n < length xs → j < n + 1 → Came xs n i x d j
came xs n i x d j l h b = elim (cases_order j i) [
  | inl e ↦ inr (inl (e, rw e (at_seat xs n i x d l h)))
  | inr s ↦ elim s [
    | inl s ↦ inl (s, below_seat xs n i x d j l h s)
    | inr s ↦ let e : j ≡ j - 1 + 1 = omega arith in inr (inr (j - 1, omega arith, e, ap (λ k. get_or (seated xs n i x) k d) e ∙ above_seat xs n i x d (j - 1) l h (omega arith) (omega arith)))
  ]
]

pub ascending_seated : {R : Type 0} (key : R → ℕ) (xs : List R) (n i : ℕ) (x : R) → Ascending key xs n → n < length xs → Lacks key xs n (key x) → Seat key xs n (key x) i
    → Ascending key (seated xs n i x) (n + 1)
ascending_seated key xs n i x up h new s a b d l t =
    let w = s.within in
    elim (came xs n i x d a w h (omega arith)) [
      | inl p ↦ elim (came xs n i x d b w h t) [
        | inl q ↦ omega (arith, ap key p.1, ap key q.1, up a b d l (omega arith))
        | inr q ↦ elim q [
          | inl q ↦ omega (arith, ap key p.1, ap key q.1, s.under a d (omega arith))
          | inr q ↦ omega (arith, ap key p.1, ap key q.3, up a q.0 d (omega arith) (omega arith))
        ]
      ]
      | inr p ↦ elim p [
        | inl p ↦ elim (came xs n i x d b w h t) [
          | inl q ↦ omega arith
          | inr q ↦ elim q [
            | inl q ↦ omega arith
            | inr q ↦ less (key x) (key (get_or xs q.0 d)) _ _ (ap key p.1) (ap key q.3) (s.over q.0 d (omega arith) (omega arith)) (new q.0 d (omega arith))
          ]
        ]
        | inr p ↦ elim (came xs n i x d b w h t) [
          | inl q ↦ omega arith
          | inr q ↦ elim q [
            | inl q ↦ omega arith
            | inr q ↦ omega (arith, ap key p.3, ap key q.3, up p.0 q.0 d (omega arith) (omega arith))
          ]
        ]
      ]
    ]
  where
    less : (k m u v : ℕ) → u ≡ k → v ≡ m → k ≤ m → (m ≡ k → ⊥) → u < v
    less k m u v e f l ne = elim (cases_order k m) [ inl e ↦ absurd (ne (sym e)) | inr o ↦ elim o [ inl o ↦ omega arith | inr o ↦ omega arith ] ]

pub length_seated : {R : Type 0} (xs : List R) (n i : ℕ) (x : R) → i ≤ n → n < length xs → length (seated xs n i x) ≡ length xs
length_seated xs n i x l h =
    let t = length-take-le n xs (omega arith) in
    omega (arith, length-append (insert (take n xs) i x) (drop (n + 1) xs), length-insert (take n xs) i x (omega arith), length-drop (n + 1) xs)

-- what lies past the slots in use stays
pub drop_seated : {R : Type 0} (xs : List R) (n i : ℕ) (x : R) (p : ℕ) → i ≤ n → n < length xs → n < p → drop p (seated xs n i x) ≡ drop p xs
drop_seated xs n i x p l h b =
    let t = length-take-le n xs (omega arith) in
    drop-append-drop (n + 1) xs (insert (take n xs) i x) p (omega arith) (omega (arith, length-insert (take n xs) i x (omega arith)))

-- what a new record x, put in at its seat i, leaves of a row with a free place: n of the slots xs were in use, and p may be
pub record Entered {R : Type 0} (key : R → ℕ) (xs : List R) (n p : ℕ) (x : R) (i : ℕ) (ys : List R) : Type 0 where
  pub within : n + 1 ≤ p
  pub fits : p ≤ length ys
  pub ascends : Ascending key ys (n + 1)
  pub slots : ys ≡ seated xs n i x
  pub beyond : drop p ys ≡ drop p xs

pub entered : {R : Type 0} (key : R → ℕ) (xs : List R) (n p : ℕ) → n < p → p ≤ length xs → Ascending key xs n → (x : R) (i : ℕ) → Lacks key xs n (key x) → Seat key xs n (key x) i
    → (zs : List R) → zs ≡ paste xs (i + 1) (drop i xs) (n - i) → Entered key xs n p x i (set zs i x)
entered key xs n p w f up x i new seat zs e =
    let free : n < length xs = omega arith in
    let put : set zs i x ≡ seated xs n i x = ap (λ ys. set ys i x) e ∙ shifted xs n i x seat.within free in
    subst (Entered key xs n p x i) (sym put) (record {
      within = omega arith;
      fits = omega (arith, length_seated xs n i x seat.within free);
      ascends = ascending_seated key xs n i x up free new seat;
      slots = refl;
      beyond = drop_seated xs n i x p seat.within free w;
    })
