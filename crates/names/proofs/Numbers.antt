-- What follows for a table whose records are in order and numbered.
use Rattle.std.proofs.Common.{◌≡◌, ℕ, zero, suc, ◌+◌, ◌-◌, ◌<◌, ◌≤◌, false, List, [], ◌∷◌, ◌++◌, length, get_or, take, drop, Some, None, sym, refl, ap, ◌∙◌, inl, inr, add-one, arith}
use Rattle.std.proofs.lemmas.List.Edits.{length-insert}
use Rattle.std.proofs.lemmas.List.{get_or_default, get_or-take, length-take-le, take-append-drop, take_at}
use Rattle.std.proofs.lemmas.Option.{slice_get-get_or, slice_get_past}
use Rattle.std.proofs.lemmas.Bool.{cases_lt, cases_order, both_ways}
use Rattle.std.specs.List.{insert}
use Rattle.row.specs.Order.{Ascending, Lacks, Holds, seated}
use Rattle.row.proofs.Seats.{came}
use Rattle.names.specs.Bytes.{is_name, rank}
use Rattle.names.specs.Names.{spelled}
use Rattle.names.specs.Slots.{vacant, place, holder, names_to, table_of, Counted, Seated, Single}
use Rattle.names.specs.Tables.{name_at, atom_of, Kept}
use Rattle.names.specs.declared.slot.NameSlot.{NameSlot}
use Rattle.names.proofs.Finds.{find_from_lem, find_none}
use Rattle.names.proofs.Holders.{sits, holder_other, holder_new, length_names, get_or_names, names_more}
use Rattle.names.proofs.Ranks.{order_law}

-- n records with the atoms 1 to n in the order of their names in xs, and p places for them
pub record Numbered (xs : List NameSlot) (n p : ℕ) : Type 0 where
  pub within : n ≤ p
  pub fits : p ≤ length xs
  pub few : p ≤ 64
  pub rising : Ascending place xs n
  pub counted : Counted xs n
  pub seated : Seated xs n
  pub single : Single xs n

-- records with the same place have the same name
same_name : (x y : NameSlot) → place x ≡ place y → spelled x.name ≡ spelled y.name
same_name x y e = (order_law (spelled x.name) (spelled y.name) x.name.good y.name.good).2 e

module _ (xs : List NameSlot) (n p : ℕ) (o : Numbered xs n p) where
  -- two records differ
  places_apart : (i j : ℕ) → i < n → j < n → (i ≡ j → ⊥) → place (get_or xs i vacant) ≡ place (get_or xs j vacant) → ⊥
  places_apart i j a b f e = elim (cases_order i j) [
    | inl q ↦ f q
    | inr q ↦ elim q [ inl l ↦ omega (arith, o.rising i j vacant l b) | inr l ↦ omega (arith, o.rising j i vacant l a) ]
  ]

  length_use : length (take n xs) ≡ n
  length_use = length-take-le n xs (omega (arith, o.within, o.fits))

  -- where the record of the atom k + 1 stands
  record Seat (k : ℕ) : Type 0 where
    pub index : ℕ
    pub within : index < n
    pub atom : (get_or xs index vacant).atom ≡ suc k
    pub is : get_or xs index vacant ≡ holder (suc k) (take n xs)

  seat : (k : ℕ) → k < n → Seat k
  seat k l =
      let s = sits (take n xs) (suc k) (omega arith) (o.seated k l) in
      let w : s.index < n = omega (arith, s.within, length_use) in
      let e : get_or xs s.index vacant ≡ holder (suc k) (take n xs) = sym (get_or-take n xs s.index vacant w) ∙ s.is in
      record { index = s.index; within = w; atom = ap (λ x. x.atom) e ∙ o.seated k l; is = e }

  -- the name of the atom k + 1
  name_at_lem : (k : ℕ) (l : k < n) → get_or (names_to n (take n xs)) k [] ≡ spelled (get_or xs (seat k l).index vacant).name
  name_at_lem k l = get_or_names n (take n xs) k l ∙ ap (λ x. spelled x.name) (sym (seat k l).is)

  names_within : (k : ℕ) → k < length (names_to n (take n xs)) → k < n
  names_within k l = omega (arith, length_names n (take n xs))

  -- no name stands twice
  names_apart : (i j : ℕ) → i < n → j < n → (i ≡ j → ⊥) → get_or (names_to n (take n xs)) i [] ≡ get_or (names_to n (take n xs)) j [] → ⊥
  names_apart i j a b f e =
      places_apart (seat i a).index (seat j b).index (seat i a).within (seat j b).within
      (λ q. f (omega (arith, ap (λ k. (get_or xs k vacant).atom) q, (seat i a).atom, (seat j b).atom)))
      (ap rank (sym (name_at_lem i a) ∙ e ∙ name_at_lem j b))

  pub kept : Kept (table_of xs n p)
  kept = record {
    within = omega (arith, length_names n (take n xs), o.within);
    few = o.few;
    good = λ k l. ap is_name (get_or_names n (take n xs) k (names_within k l)) ∙ (holder (suc k) (take n xs)).name.good;
    single = λ i j l h. names_apart i j (omega (arith, names_within j h)) (names_within j h) (λ q. omega arith);
  }

  -- ---- the atom of a word

  -- of the record at i
  pub found_at : (w : List ℕ) (i : ℕ) → i < n → spelled (get_or xs i vacant).name ≡ w → atom_of (table_of xs n p) w ≡ Some (get_or xs i vacant).atom
  found_at w i l e =
      let a = (get_or xs i vacant).atom in
      let c = o.counted i l in
      let k = a - 1 in
      let s : suc k ≡ a = omega arith in
      let m : k < n = omega arith in
      let at : get_or (names_to n (take n xs)) k [] ≡ w =
      get_or_names n (take n xs) k m ∙ ap (λ j. spelled (holder j (take n xs)).name) s ∙ same_name (holder a (take n xs)) (get_or xs i vacant) (o.single i l) ∙ e in
      find_from_lem 1 (names_to n (take n xs)) w k (omega (arith, length_names n (take n xs))) at (λ j h q. names_apart j k (omega arith) m (λ z. omega arith) (q ∙ sym at))
      ∙ ap Some (omega arith)

  pub found_none : (w : List ℕ) → Lacks place xs n (rank w) → atom_of (table_of xs n p) w ≡ None
  found_none w f = find_none 1 (names_to n (take n xs)) w (λ j h e.
      let l = names_within j h in f (seat j l).index vacant (seat j l).within (ap rank (sym (name_at_lem j l) ∙ e)))

  pub found_bad : (w : List ℕ) → is_name w ≡ false → atom_of (table_of xs n p) w ≡ None
  found_bad w b = find_none 1 (names_to n (take n xs)) w (λ j h e. both_ways (is_name w) b (ap is_name (sym e) ∙ kept.good j h))

  -- ---- the name of an atom

  pub name_past : (k : ℕ) → n < k → name_at (table_of xs n p) k ≡ None
  name_past zero l = absurd (omega arith)
  name_past (suc k) l = slice_get_past (names_to n (take n xs)) k (omega (arith, length_names n (take n xs)))

  -- of the record at i
  pub name_of_record : (k i : ℕ) → i < n → (get_or xs i vacant).atom ≡ k → name_at (table_of xs n p) k ≡ Some (spelled (get_or xs i vacant).name)
  name_of_record zero i l e = absurd (omega (arith, o.counted i l))
  name_of_record (suc k) i l e =
      let c = o.counted i l in
      let m : k < n = omega arith in
      slice_get-get_or (names_to n (take n xs)) k [] (omega (arith, length_names n (take n xs)))
      ∙ ap Some (get_or_names n (take n xs) k m ∙ ap (λ j. spelled (holder j (take n xs)).name) (sym e) ∙ same_name (holder (get_or xs i vacant).atom (take n xs)) (get_or xs i vacant) (o.single i l))

  -- no record has the atom
  pub name_none : (k : ℕ) → ((i : ℕ) → i < n → (get_or xs i vacant).atom ≡ k → ⊥) → name_at (table_of xs n p) k ≡ None
  name_none zero f = refl
  name_none (suc k) f = elim (cases_lt k n) [
    | inl l ↦ absurd (f (seat k l).index (seat k l).within (seat k l).atom)
    | inr l ↦ name_past (suc k) (omega arith)
  ]

  -- the record z, with its atom k, that was read at i, where a search for x ended
  pub found_read : (x : NameSlot) (ps : List NameSlot) (i : ℕ) (z : NameSlot) (k : ℕ) → ps ≡ take n xs → Holds place xs n (place x) i → z ≡ get_or ps i z → k ≡ z.atom
      → atom_of (table_of xs n p) (spelled x.name) ≡ Some k
  found_read x ps i z k e h r m =
      let at : z ≡ get_or xs i vacant = r ∙ ap (λ ys. get_or ys i z) e ∙ get_or-take n xs i z h.0 ∙ get_or_default xs i z vacant (omega (arith, h.0, o.within, o.fits)) in
      found_at (spelled x.name) i h.0 (same_name (get_or xs i vacant) x (h.1 vacant)) ∙ ap Some (sym (m ∙ ap (λ y. y.atom) at))

  -- the record z of the atom k that was read at i
  pub name_read : (k : ℕ) (ps : List NameSlot) (i : ℕ) (z : NameSlot) → ps ≡ take n xs → i < length ps → (get_or ps i vacant).atom ≡ k → z ≡ get_or ps i z
      → name_at (table_of xs n p) k ≡ Some (spelled z.name)
  name_read k ps i z e l a r =
      let l' : i < n = omega (arith, ap length e, length_use) in
      let at : get_or ps i vacant ≡ get_or xs i vacant = ap (λ ys. get_or ys i vacant) e ∙ get_or-take n xs i vacant l' in
      let at' : z ≡ get_or xs i vacant = r ∙ get_or_default ps i z vacant l ∙ at in
      name_of_record k i l' (ap (λ y. y.atom) (sym at) ∙ a) ∙ ap (λ y. Some (spelled y.name)) (sym at')

  pub name_unread : (k : ℕ) (ps : List NameSlot) → ps ≡ take n xs → ((i : ℕ) → i < length ps → (get_or ps i vacant).atom ≡ k → ⊥) → name_at (table_of xs n p) k ≡ None
  name_unread k ps e f = name_none k (λ i l a.
      f i (omega (arith, ap length e, length_use)) (ap (λ ys. (get_or ys i vacant).atom) e ∙ ap (λ y. y.atom) (get_or-take n xs i vacant l) ∙ a))

  -- ---- one record more, x with the next atom, put in at its seat i

  module _ (i : ℕ) (x : NameSlot) (b : i ≤ n) (h : n < p) (num : x.atom ≡ n + 1) where
    fit : n < length xs
    fit = omega (arith, o.fits)

    -- the records in use then
    now_used : take (n + 1) (seated xs n i x) ≡ take i (take n xs) ++ (x ∷ drop i (take n xs))
    now_used = take_at (insert (take n xs) i x) (drop (n + 1) xs) (n + 1) (omega (arith, length-insert (take n xs) i x (omega (arith, length_use)), length_use))

    held_other : (k : ℕ) → (n + 1 ≡ k → ⊥) → holder k (take (n + 1) (seated xs n i x)) ≡ holder k (take n xs)
    held_other k f =
        ap (holder k) now_used ∙ holder_other (take i (take n xs)) (drop i (take n xs)) x k (λ e. f (sym num ∙ e)) ∙ ap (holder k) (take-append-drop i (take n xs))

    held_new : holder (n + 1) (take (n + 1) (seated xs n i x)) ≡ x
    held_new = ap (holder (n + 1)) now_used ∙ holder_new (take i (take n xs)) (drop i (take n xs)) x (n + 1) num (λ j l e.
        let t = length-take-le i (take n xs) (omega (arith, length_use)) in
        let m : j < i = omega arith in
        let q : get_or (take i (take n xs)) j vacant ≡ get_or xs j vacant = get_or-take i (take n xs) j vacant m ∙ get_or-take n xs j vacant (omega arith) in
        omega (arith, o.counted j (omega arith), ap (λ y. y.atom) q))

    pub numbered_more : p ≤ length (seated xs n i x) → Ascending place (seated xs n i x) (n + 1) → Numbered (seated xs n i x) (n + 1) p
    numbered_more fits ascends = record {
      within = omega arith;
      fits = fits;
      few = o.few;
      rising = ascends;
      counted = λ j l. elim (came xs n i x vacant j b fit l) [
        | inl q ↦ count j j q.1 (omega (arith, q.0))
        | inr q ↦ elim q [
          | inl q ↦ let e = ap (λ y. y.atom) q.1 in (omega arith, omega arith)
          | inr q ↦ count j q.0 q.3 (omega (arith, q.2))
        ]
      ];
      seated = λ k l. elim (cases_lt k n) [
        | inl q ↦ ap (λ y. y.atom) (held_other (suc k) (λ e. omega arith)) ∙ o.seated k q
        | inr q ↦ let e : suc k ≡ n + 1 = omega arith in ap (λ j. (holder j (take (n + 1) (seated xs n i x))).atom) e ∙ ap (λ y. y.atom) held_new ∙ num ∙ sym e
      ];
      single = λ j l. elim (came xs n i x vacant j b fit l) [
        | inl q ↦ again j j q.1 (omega (arith, q.0))
        | inr q ↦ elim q [
          | inl q ↦ ap (λ y. place (holder y.atom (take (n + 1) (seated xs n i x)))) q.1 ∙ ap (λ k. place (holder k (take (n + 1) (seated xs n i x)))) num ∙ ap place held_new ∙ sym (ap place q.1)
          | inr q ↦ again j q.0 q.3 (omega (arith, q.2))
        ]
      ];
    }
      where
        count : (j k : ℕ) → get_or (seated xs n i x) j vacant ≡ get_or xs k vacant → k < n → (0 < (get_or (seated xs n i x) j vacant).atom) × ((get_or (seated xs n i x) j vacant).atom ≤ n + 1)
        count j k e l = let f = ap (λ y. y.atom) e in let c = o.counted k l in (omega arith, omega arith)

        again : (j k : ℕ) → get_or (seated xs n i x) j vacant ≡ get_or xs k vacant → k < n
            → place (holder (get_or (seated xs n i x) j vacant).atom (take (n + 1) (seated xs n i x))) ≡ place (get_or (seated xs n i x) j vacant)
        again j k e l =
            ap (λ y. place (holder y.atom (take (n + 1) (seated xs n i x)))) e ∙ ap place (held_other (get_or xs k vacant).atom (λ q. omega (arith, o.counted k l))) ∙ o.single k l ∙ sym (ap place e)

    pub names_pushed : names_to (n + 1) (take (n + 1) (seated xs n i x)) ≡ names_to n (take n xs) ++ (spelled x.name ∷ [])
    names_pushed = names_more n (take n xs) (take (n + 1) (seated xs n i x)) x (λ k l. held_other (suc k) (λ e. omega arith)) (ap (λ k. holder k (take (n + 1) (seated xs n i x))) (sym (add-one n)) ∙ held_new)
