-- What follows for a store whose records are in order and whose seats are right.
use Rattle.std.proofs.Common.{◌≡◌, ℕ, ◌+◌, ◌-◌, ◌<◌, ◌≤◌, true, cond, List, [], ◌∷◌, ◌++◌, length, get_or, take, Some, None, Ok, Err, sym, ap, ◌∙◌, subst, inl, inr, arith}
use Rattle.std.proofs.lemmas.List.{get_or_default, get_or-take, length-take-le}
use Rattle.std.proofs.lemmas.Bool.{cases_lt, cases_order, le-leb, lt-leb, not-true, not-false, both_ways}
use Rattle.clause.specs.Refusals.{refused}
use Rattle.clause.specs.declared.words.Clause.{Clause}
use Rattle.clause.specs.Clauses.{Words, lits, makes, same}
use Rattle.clause.specs.Order.{rank}
use Rattle.store.specs.declared.entry.Entry.{Entry}
use Rattle.store.specs.Held.{Held, clause_at, found, least_false, put_answer, after_put, pushed}
use Rattle.row.specs.Order.{Ascending, Lacks, Holds, seated}
use Rattle.row.proofs.Seats.{below_seat, at_seat, above_seat, came}
use Rattle.row_store.specs.declared.slot.Slot.{Slot}
use Rattle.row_store.specs.Seats.{vacant, entry_of, place, sitting, arrivals, held_of, Ordered, moved, MakesWay, AllTrue, FirstFalse}
use Rattle.row_store.specs.Keeps.{length_arrivals, clause_at_lem, rank_at, seats_apart, places_apart}
use Rattle.store.proofs.Finds.{find_none, find_from_lem}
use Rattle.store.proofs.Leasts.{least_none, least_is}
use Rattle.store.proofs.Puts.{put_found, put_full, put_new}
use Rattle.store.proofs.Sames.{same_rank, other_rank, rank_same}
use Rattle.row_store.proofs.Arrivals.{arrivals_more}

module _ (xs : List Slot) (ss : List ℕ) (n p : ℕ) (o : Ordered xs ss n p) where
  -- ---- from a record to its entry

  -- the index of the record at i
  abbrev index : ℕ → ℕ
  index i = (get_or xs i vacant).number - 1

  index_within : (i : ℕ) → i < n → index i < n
  index_within i l = let h = o.counted i l in omega arith

  index_number : (i : ℕ) → i < n → 1 + index i ≡ (get_or xs i vacant).number
  index_number i l = let h = o.counted i l in omega arith

  clause_back : (i : ℕ) → i < n → clause_at (arrivals xs ss n) (index i) ≡ (get_or xs i vacant).clause
  clause_back i l = clause_at_lem xs ss n p o (index i) (index_within i l) ∙ ap (λ s. (get_or xs s vacant).clause) (o.returned i l)

  -- another entry has another seat
  other_seat : (i k : ℕ) → i < n → k < n → (k ≡ index i → ⊥) → get_or ss k 0 ≡ i → ⊥
  other_seat i k l h f e = seats_apart xs ss n p o k (index i) h (index_within i l) f (e ∙ sym (o.returned i l))

  pub found_at : (c : Clause) (i : ℕ) → i < n → same (get_or xs i vacant).clause c ≡ true → found (held_of xs ss n p) c ≡ Some (get_or xs i vacant).number
  found_at c i l t =
      find_from_lem 1 (arrivals xs ss n) c (index i) (omega (arith, length_arrivals xs ss n, index_within i l)) (ap (λ d. same d c) (clause_back i l) ∙ t)
      (λ k h. let a : k < n = omega (arith, index_within i l) in
      other_rank (clause_at (arrivals xs ss n) k) c
      (λ e. places_apart xs ss n p o (get_or ss k 0) i (o.seated k a) l (other_seat i k l a (λ q. omega arith)) (sym (rank_at xs ss n p o k a) ∙ e ∙ sym (same_rank (get_or xs i vacant).clause c t))))
      ∙ ap Some (index_number i l)

  pub found_none : (c : Clause) → Lacks place xs n (rank (lits c)) → found (held_of xs ss n p) c ≡ None
  found_none c f = find_none 1 (arrivals xs ss n) c (λ k h.
      let a : k < n = omega (arith, length_arrivals xs ss n) in other_rank (clause_at (arrivals xs ss n) k) c (λ e. f (get_or ss k 0) vacant (o.seated k a) (sym (rank_at xs ss n p o k a) ∙ e)))

  -- ---- the first false record

  truth_at : (v k : ℕ) → k < n → makes v (lits (clause_at (arrivals xs ss n) k)) ≡ makes v (lits (get_or xs (get_or ss k 0) vacant).clause)
  truth_at v k l = ap (λ c. makes v (lits c)) (clause_at_lem xs ss n p o k l)

  -- of the part of the records in use, as it is handed on
  pub least_all : (v : ℕ) (ps : List Slot) → ps ≡ take n xs → AllTrue ps 0 (length ps) v → least_false (held_of xs ss n p) v ≡ None
  least_all v ps e f =
      let t : length ps ≡ n = ap length e ∙ length-take-le n xs (omega (arith, o.within, o.fits)) in
      (least_none (arrivals xs ss n) v (λ k h.
      let a : k < n = omega (arith, length_arrivals xs ss n) in
      let s = o.seated k a in
      truth_at v k a ∙ ap (λ x. makes v (lits x.clause)) (sym (ap (λ ys. get_or ys (get_or ss k 0) vacant) e ∙ get_or-take n xs (get_or ss k 0) vacant s))
      ∙ not-false _ (f (get_or ss k 0) (omega arith) (omega arith))))

  pub least_first : (v : ℕ) (ps : List Slot) (i : ℕ) → ps ≡ take n xs → FirstFalse ps 0 v i → least_false (held_of xs ss n p) v ≡ Some (get_or ps i vacant).number
  least_first v ps i e f =
      let t : length ps ≡ n = ap length e ∙ length-take-le n xs (omega (arith, o.within, o.fits)) in
      let l : i < n = omega (arith, f.0) in
      let at : (j : ℕ) → j < n → get_or ps j vacant ≡ get_or xs j vacant = λ j h. ap (λ ys. get_or ys j vacant) e ∙ get_or-take n xs j vacant h in
      (least_is (arrivals xs ss n) v (index i) (omega (arith, length_arrivals xs ss n, index_within i l))
      (ap (λ c. makes v (lits c)) (clause_back i l) ∙ ap (λ x. makes v (lits x.clause)) (sym (at i l)) ∙ not-true _ f.2)
      (λ k h ne q.
      let a : k < n = omega (arith, length_arrivals xs ss n) in
      let s = o.seated k a in
      elim (cases_order (get_or ss k 0) i) [
        | inl z ↦ absurd (other_seat i k l a ne z)
        | inr z ↦ elim z [
          | inl z ↦ absurd (both_ways _ q (truth_at v k a ∙ ap (λ x. makes v (lits x.clause)) (sym (at (get_or ss k 0) s)) ∙ not-false _ (f.3 (get_or ss k 0) (omega arith) z)))
          | inr z ↦ omega (arith, o.rising i (get_or ss k 0) vacant z s, rank_at xs ss n p o k a, ap (λ c. rank (lits c)) (clause_back i l))
        ]
      ]))
      ∙ ap Some (index_number i l) ∙ ap (λ x. Some x.number) (sym (at i l))

  -- the record z, with its number k, that was read at i, where a search for x ended
  pub found_read : (c : Clause) (x : Slot) (ps : List Slot) (i : ℕ) (z : Slot) (k : ℕ) → ps ≡ take n xs → Holds place xs n (place x) i → x.clause ≡ c
      → z ≡ get_or ps i z → k ≡ z.number → Some k ≡ found (held_of xs ss n p) c
  found_read c x ps i z k e h q r m =
      let at : z ≡ get_or xs i vacant = r ∙ ap (λ ys. get_or ys i z) e ∙ get_or-take n xs i z h.0 ∙ get_or_default xs i z vacant (omega (arith, h.0, o.within, o.fits)) in
      let t : same z.clause c ≡ true = rank_same z.clause c z.words (subst Words q x.words) (ap place at ∙ h.1 vacant ∙ ap (λ d. rank (lits d)) q) in
      ap Some (m ∙ ap (λ y. y.number) at) ∙ sym (found_at c i h.0 (ap (λ y. same y.clause c) (sym at) ∙ t))

  pub found_lacks : (c : Clause) (x : Slot) → Lacks place xs n (place x) → x.clause ≡ c → None ≡ found (held_of xs ss n p) c
  found_lacks c x f q = sym (found_none c (subst (λ d. Lacks place xs n (rank (lits d))) q f))

  -- ---- a put that alters nothing

  module _ (e : Entry) (ys : List Slot) (m q : ℕ) (left : ys ≡ xs) (size : m ≡ n) (stays : q ≡ p) where
    held_same : held_of ys ss m q ≡ held_of xs ss n p
    held_same = ap (λ z. held_of z ss m q) left ∙ ap (λ j. held_of xs ss j q) size ∙ ap (held_of xs ss n) stays

    -- the records in use are those of before
    pub same_records : (ps : List Slot) → ps ≡ take m ys → ps ≡ take n xs
    same_records ps r = r ∙ ap (take m) left ∙ ap (λ j. take j xs) size

    pub put_held : (k : ℕ) → Some k ≡ found (held_of xs ss n p) e.clause → (Ok k ≡ put_answer (held_of xs ss n p) e) × (held_of ys ss m q ≡ after_put (held_of xs ss n p) e)
    put_held k f = let r = put_found (held_of xs ss n p) e k (sym f) in (sym r.0, held_same ∙ sym r.1)

    pub put_refused : None ≡ found (held_of xs ss n p) e.clause → p ≤ n → (Err (refused 10 0) ≡ put_answer (held_of xs ss n p) e) × (held_of ys ss m q ≡ after_put (held_of xs ss n p) e)
    put_refused f l = let r = put_full (held_of xs ss n p) e (sym f) (omega (arith, length_arrivals xs ss n, o.within)) in (sym r.0, held_same ∙ sym r.1)

  -- ---- one record more, x with the next number, put in at its seat i

  module _ (ts : List ℕ) (i : ℕ) (x : Slot) (b : i ≤ n) (h : n < p) (num : x.number ≡ n + 1) (w : MakesWay ss n i ts) where
    fit : n < length xs
    fit = omega (arith, o.fits)

    -- a record that was in a seat is in the moved one
    kept_seat : (s : ℕ) → s < n → get_or (seated xs n i x) (moved i s) vacant ≡ get_or xs s vacant
    kept_seat s l = elim (cases_lt s i) [
      | inl q ↦ ap (λ t. get_or (seated xs n i x) (cond t (s + 1) s) vacant) (lt-leb i s q) ∙ below_seat xs n i x vacant s b fit q
      | inr q ↦ ap (λ t. get_or (seated xs n i x) (cond t (s + 1) s) vacant) (le-leb i s q) ∙ above_seat xs n i x vacant s b fit q l
    ]

    pub others_sit : (k : ℕ) → k < n → sitting (seated xs n i x) ts k ≡ sitting xs ss k
    others_sit k l = ap (λ s. get_or (seated xs n i x) s vacant) (w.others k l) ∙ kept_seat (get_or ss k 0) (o.seated k l)

    pub own_sits : sitting (seated xs n i x) ts n ≡ x
    own_sits = ap (λ s. get_or (seated xs n i x) s vacant) w.own ∙ at_seat xs n i x vacant b fit

    moved_within : (s : ℕ) → s < n → moved i s < n + 1
    moved_within s l = elim (cases_lt s i) [
      | inl q ↦ subst (λ t. cond t (s + 1) s < n + 1) (sym (lt-leb i s q)) (omega arith)
      | inr q ↦ subst (λ t. cond t (s + 1) s < n + 1) (sym (le-leb i s q)) (omega arith)
    ]

    -- the seat of the number m, which was that of the record at j
    seat_again : (m j k : ℕ) → 0 < m → m ≤ n → get_or ss (m - 1) 0 ≡ j → moved i j ≡ k → get_or ts (m - 1) 0 ≡ k
    seat_again m j k z l e f = w.others (m - 1) (omega arith) ∙ ap (moved i) e ∙ f

    pub ordered_more : p ≤ length (seated xs n i x) → Ascending place (seated xs n i x) (n + 1) → Ordered (seated xs n i x) ts (n + 1) p
    ordered_more fits ascends = record {
      within = omega arith;
      fits = fits;
      benches = omega (arith, w.same_length, o.benches);
      few = o.few;
      rising = ascends;
      seated = λ k l. elim (cases_lt k n) [
        | inl q ↦ subst (λ t. t < n + 1) (sym (w.others k q)) (moved_within (get_or ss k 0) (o.seated k q))
        | inr q ↦ let e : k ≡ n = omega arith in omega (arith, ap (λ j. get_or ts j 0) e, w.own)
      ];
      named = λ k l. elim (cases_lt k n) [
        | inl q ↦ ap (λ y. y.number) (others_sit k q) ∙ o.named k q
        | inr q ↦ let e : k ≡ n = omega arith in omega (arith, ap (λ j. (sitting (seated xs n i x) ts j).number) e, ap (λ y. y.number) own_sits)
      ];
      counted = λ j l. elim (came xs n i x vacant j b fit l) [
        | inl q ↦ count j j q.1 (omega (arith, q.0))
        | inr q ↦ elim q [
          | inl q ↦ let e = ap (λ y. y.number) q.1 in (omega arith, omega arith)
          | inr q ↦ count j q.0 q.3 (omega (arith, q.2))
        ]
      ];
      returned = λ j l. elim (came xs n i x vacant j b fit l) [
        | inl q ↦ again j j q.1 (omega (arith, q.0)) (ap (λ t. cond t (j + 1) j) (lt-leb i j q.0))
        | inr q ↦ elim q [
          | inl q ↦ let e = ap (λ y. y.number) q.1 in let m : (get_or (seated xs n i x) j vacant).number - 1 ≡ n = omega arith in ap (λ k. get_or ts k 0) m ∙ w.own ∙ sym q.0
          | inr q ↦ again j q.0 q.3 (omega (arith, q.2)) (ap (λ t. cond t (q.0 + 1) q.0) (le-leb i q.0 q.1) ∙ sym q.2)
        ]
      ];
    }
      where
        count : (j k : ℕ) → get_or (seated xs n i x) j vacant ≡ get_or xs k vacant → k < n → (0 < (get_or (seated xs n i x) j vacant).number) × ((get_or (seated xs n i x) j vacant).number ≤ n + 1)
        count j k e l = let f = ap (λ y. y.number) e in let h = o.counted k l in (omega arith, omega arith)

        again : (j k : ℕ) → get_or (seated xs n i x) j vacant ≡ get_or xs k vacant → k < n → moved i k ≡ j → get_or ts ((get_or (seated xs n i x) j vacant).number - 1) 0 ≡ j
        again j k e l f =
            ap (λ y. get_or ts (y.number - 1) 0) e ∙ seat_again (get_or xs k vacant).number k j (o.counted k l).0 (o.counted k l).1 (o.returned k l) f

    pub held_more : arrivals (seated xs n i x) ts (n + 1) ≡ arrivals xs ss n ++ (entry_of x ∷ [])
    held_more = arrivals_more xs (seated xs n i x) ss ts n x others_sit own_sits

    -- the same of what an addition left
    module _ (e : Entry) (is : entry_of x ≡ e) (new : Lacks place xs n (place x)) (ys : List Slot) (m q : ℕ) (left : ys ≡ seated xs n i x) (grows : m ≡ n + 1) (stays : q ≡ p) where
      pub ordered_put : q ≤ length ys → Ascending place ys m → Ordered ys ts m q
      ordered_put f s =
          let fits : p ≤ length (seated xs n i x) = omega (arith, ap length left) in
          let ascends : Ascending place (seated xs n i x) (n + 1) = subst (Ascending place (seated xs n i x)) grows (subst (λ z. Ascending place z m) left s) in
          subst (λ z. Ordered z ts m q) (sym left) (subst (λ j. Ordered (seated xs n i x) ts j q) (sym grows) (subst (λ j. Ordered (seated xs n i x) ts (n + 1) j) (sym stays) (ordered_more fits ascends)))

      none : found (held_of xs ss n p) e.clause ≡ None
      none = sym (found_lacks e.clause x new (ap (λ y. y.clause) is))

      put_case : (put_answer (held_of xs ss n p) e ≡ Ok (length (arrivals xs ss n) + 1)) × (after_put (held_of xs ss n p) e ≡ pushed (held_of xs ss n p) e)
      put_case = put_new (held_of xs ss n p) e none (λ z. omega (arith, length_arrivals xs ss n))

      pub answers_new : Ok (n + 1) ≡ put_answer (held_of xs ss n p) e
      answers_new = ap (λ j. Ok (j + 1)) (sym (length_arrivals xs ss n)) ∙ sym put_case.0

      pub after_new : held_of ys ts m q ≡ after_put (held_of xs ss n p) e
      after_new =
          ap (λ z. held_of z ts m q) left ∙ ap (λ j. held_of (seated xs n i x) ts j q) grows ∙ ap (held_of (seated xs n i x) ts (n + 1)) stays
          ∙ ap (λ es. entries_of es) (held_more ∙ ap (λ y. arrivals xs ss n ++ (y ∷ [])) is) ∙ sym put_case.1
        where
          entries_of : List Entry → Held
          entries_of es = record { entries = es; places = p }
