-- What the answers of a sound list mean for the entries that it holds.
use Rattle.std.proofs.Common.{◌≡◌, ℕ, zero, suc, ◌+◌, ◌-◌, ◌<◌, ◌≤◌, true, false, List, length, get_or, take, drop, set, Some, None, Ok, Err, Option, sym, ap, ◌∙◌, arith, MatchOption}
use Rattle.std.proofs.lemmas.List.{drop-set-lt, length-take-le, take_more_set}
use Rattle.std.proofs.lemmas.Bool.{not-true, not-false, not_from_false}
use Rattle.clause.specs.declared.words.Clause.{Clause}
use Rattle.clause.specs.Clauses.{lits, makes, same}
use Rattle.clause.specs.Refusals.{refused}
use Rattle.store.specs.declared.entry.Entry.{Entry}
use Rattle.store.specs.Held.{Held, clause_at, blank, found, least_false, put_answer, after_put}
use Rattle.store.proofs.Finds.{find_none, find_from_lem}
use Rattle.store.proofs.Leasts.{least_none, least_is}
use Rattle.store.proofs.Puts.{put_found, put_full, put_new}
use Rattle.store.proofs.Sames.{same_rank, other_rank}
use Rattle.skip_store.specs.Links.{held_of, spot_of, spot, Sound, Lacks, Holds, AllTrue, FirstFalse}
use Rattle.skip_store.specs.Keeps.{clause_at_lem, spot_at}
use Rattle.skip_store.proofs.Spots.{spot_head}

module _ (es : List Entry) (head links : List ℕ) (n p : ℕ) (o : Sound es head links n p) where
  long : length (take n es) ≡ n
  long = length-take-le n es (omega (arith, o.within, o.fits))

  -- ---- find

  lacks_same : (c : Clause) → Lacks es n (spot_of c) → (i : ℕ) → i < n → same (clause_at (take n es) i) c ≡ false
  lacks_same c f i l = other_rank (clause_at (take n es) i) c (λ e. f (suc i) (omega arith) (spot_at es n i l ∙ ap suc e))

  -- only entry k has the clause that it holds
  others_same : (c : Clause) (k : ℕ) → Holds es n c (suc k) → (i : ℕ) → i < n → (i ≡ k → ⊥) → same (clause_at (take n es) i) c ≡ false
  others_same c k h i l ne =
      let q : k < n = omega (arith, h.within) in
      let t : same (clause_at (take n es) k) c ≡ true = ap (λ d. same d c) (clause_at_lem es n k q ∙ ap (λ j. (get_or es j blank).clause) (omega arith)) ∙ h.is in
      other_rank (clause_at (take n es) i) c (λ e.
      let r = same_rank (clause_at (take n es) k) c t in
      let z : suc i ≡ suc k = o.apart (suc i) (suc k) (omega arith, omega arith, spot_at es n i l ∙ ap suc (e ∙ sym r) ∙ sym (spot_at es n k q)) in
      ne (omega arith))

  found_some : (c : Clause) (k : ℕ) → Holds es n c k → found (held_of es n p) c ≡ Some k
  found_some c zero h = absurd (omega (arith, h.some))
  found_some c (suc k) h =
      let q : k < n = omega (arith, h.within) in
      let e : 1 + k ≡ suc k = omega arith in
      find_from_lem 1 (take n es) c k (omega (arith, long)) (ap (λ d. same d c) (clause_at_lem es n k q ∙ ap (λ j. (get_or es j blank).clause) (omega arith)) ∙ h.is)
      (λ i l. others_same c k h i (omega arith) (λ z. omega arith)) ∙ ap Some e

  found_none : (c : Clause) → Lacks es n (spot_of c) → found (held_of es n p) c ≡ None
  found_none c f = find_none 1 (take n es) c (λ i l. lacks_same c f i (omega (arith, long)))

  pub found_is : (c : Clause) (r : Option ℕ) → MatchOption r (Lacks es n (spot_of c)) (λ k. Holds es n c k) → r ≡ found (held_of es n p) c
  found_is c None f = sym (found_none c f)
  found_is c (Some k) h = sym (found_some c k h)

  -- ---- least false

  spot_some : (i : ℕ) → i < n → spot es 0 < spot es (suc i)
  spot_some i l = omega (arith, spot_head es, spot_at es n i l)

  truth_at : (v i : ℕ) → i < n → makes v (lits (clause_at (take n es) i)) ≡ makes v (lits (get_or es (suc i - 1) blank).clause)
  truth_at v i l = ap (λ d. makes v (lits d)) (clause_at_lem es n i l ∙ ap (λ j. (get_or es j blank).clause) (omega arith))

  pub least_false_is : (v : ℕ) (r : Option ℕ) → MatchOption r (AllTrue es n 0 v) (λ k. FirstFalse es n 0 v k) → r ≡ least_false (held_of es n p) v
  least_false_is v None f = sym (least_none (take n es) v (λ i l.
      let q : i < n = omega (arith, long) in truth_at v i q ∙ not-false _ (f (suc i) (omega arith) (omega arith) (spot_some i q))))
  least_false_is v (Some zero) h = absurd (omega (arith, h.some))
  least_false_is v (Some (suc k)) h =
      let q : k < n = omega (arith, h.within) in
      let e : 1 + k ≡ suc k = omega arith in
      sym (least_is (take n es) v k (omega (arith, long)) (truth_at v k q ∙ not-true _ h.untrue)
      (λ i l ne f.
      let a : i < n = omega (arith, long) in
      let b = h.first (suc i) (omega arith) (omega arith) (spot_some i a) (not_from_false _ (sym (truth_at v i a) ∙ f)) in
      let d : spot es (suc i) ≡ spot es (suc k) → ⊥ = λ z. let y : suc i ≡ suc k = o.apart (suc i) (suc k) (omega arith, omega arith, z) in ne (omega arith) in
      apart_less (spot es (suc k)) (spot es (suc i)) _ _ b d (spot_at es n k q) (spot_at es n i a))
      ∙ ap Some e)
    where
      apart_less : (s t a b : ℕ) → s ≤ t → (t ≡ s → ⊥) → s ≡ suc a → t ≡ suc b → a < b
      apart_less s t a b h d e f = grind arith

  -- ---- put

  pub put_held : (e : Entry) (k : ℕ) → Holds es n e.clause k → (Ok k ≡ put_answer (held_of es n p) e) × (held_of es n p ≡ after_put (held_of es n p) e)
  put_held e k h = let r = put_found (held_of es n p) e k (found_some e.clause k h) in (sym r.0, sym r.1)

  pub put_refused : (e : Entry) → Lacks es n (spot_of e.clause) → n ≡ p → (Err (refused 10 0) ≡ put_answer (held_of es n p) e) × (held_of es n p ≡ after_put (held_of es n p) e)
  put_refused e f q = let r = put_full (held_of es n p) e (found_none e.clause f) (long ∙ q) in (sym r.0, sym r.1)

  put_more : (e : Entry) → Lacks es n (spot_of e.clause) → n < p
      → (Ok (n + 1) ≡ put_answer (held_of es n p) e) × (held_of (set es n e) (n + 1) p ≡ after_put (held_of es n p) e)
  put_more e f q =
      let r = put_new (held_of es n p) e (found_none e.clause f) (λ z. omega (arith, long)) in
      (ap (λ i. Ok (i + 1)) (sym long) ∙ sym r.0, ap entries_of (take_more_set es n e (omega (arith, o.fits))) ∙ sym r.1)
    where
      entries_of : List Entry → Held
      entries_of xs = record { entries = xs; places = p }

  -- the same, of the values that the code has
  pub put_new_values : (e : Entry) → Lacks es n (spot_of e.clause) → n < p → (ys : List Entry) (m q : ℕ) → ys ≡ set es n e → m ≡ n + 1 → q ≡ p
      → (Ok m ≡ put_answer (held_of es n p) e) × (held_of ys m q ≡ after_put (held_of es n p) e) × (drop m ys ≡ drop m es)
  put_new_values e f l ys m q a b d = let r = put_more e f l in rw (a, b, d) (r.0, r.1, drop-set-lt (n + 1) es n e (omega arith))
