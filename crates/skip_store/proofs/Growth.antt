-- One entry more, written behind the others and joined in after its predecessors.
use Rattle.std.proofs.Common.{◌≡◌, ℕ, zero, suc, ◌+◌, ◌<◌, ◌≤◌, ◌≢◌, List, length, get_or, set, sym, refl, ap, ◌∙◌, subst, ⊎_elim, add-one, arith, length-set}
use lib.Count.{count_trailing_zeros}
use Rattle.std.proofs.lemmas.List.{get_or-set_same, get_or-set_other}
use Rattle.std.proofs.lemmas.Bool.{cases_lt, cases_eq}
use Rattle.store.specs.declared.entry.Entry.{Entry}
use Rattle.store.specs.Held.{blank}
use Rattle.skip_store.specs.Links.{spot_of, spot, link, Linked, Prev, Preds, Apart, Lacks, Sound, Joins}
use Rattle.skip_store.proofs.Levels.{on_from_trailing, trailing_from_on}
use Rattle.skip_store.proofs.Spots.{spot_low}
use Rattle.skip_store.proofs.Theory.{linked_in, linked_past, linked_same, prev_same}

spot_old : (es : List Entry) (n m : ℕ) (e : Entry) → m ≤ n → spot (set es n e) m ≡ spot es m
unfolding spot
spot_old es n zero e h = refl
spot_old es n (suc i) e h = let d : i ≢ n = λ q. omega arith in rw (get_or-set_other es n i e blank d) refl

spot_new : (es : List Entry) (n : ℕ) (e : Entry) → n < length es → spot (set es n e) (n + 1) ≡ spot_of e.clause
unfolding spot
spot_new es n e h = rw (add-one, get_or-set_same es n e blank h) refl

module _ (es : List Entry) (head links : List ℕ) (n p : ℕ) (o : Sound es head links n p) (e : Entry) (before : List ℕ) (free : n < p)
    (preds : Preds es n (spot_of e.clause) before) (new : Lacks es n (spot_of e.clause))
    (head' links' : List ℕ) (j : Joins head links head' links' before (n + 1) (count_trailing_zeros 16 (n + 1) + 1)) where
  abbrev es' : List Entry
  es' = set es n e

  old : (m : ℕ) → m ≤ n → spot es' m ≡ spot es m
  old m q = spot_old es n m e q

  next : spot es' (n + 1) ≡ spot_of e.clause
  next = spot_new es n e (omega (arith, o.fits))

  apart' : Apart (spot es') n
  apart' i m q = o.apart i m (q.0, q.1, sym (old i q.0) ∙ q.2 ∙ old m q.1)

  new' : (m : ℕ) → m ≤ n → spot es' m ≡ spot es' (n + 1) → ⊥
  new' m q z = new m q (sym (old m q) ∙ z ∙ next)

  pred' : (l : ℕ) → l < 15 → Prev (spot es') n l (spot es' (n + 1)) (get_or before l 0)
  pred' l q = subst (λ t. Prev (spot es') n l t (get_or before l 0)) (sym next) (prev_same (spot es) (spot es') n l (spot_of e.clause) (get_or before l 0) old (preds l q))

  was : (l : ℕ) → l < 15 → Linked (spot es') (link head links) n l
  was l q = linked_same (spot es) (spot es') (link head links) (link head links) n l old (λ m _ _. refl) (o.linked l q)

  -- a level of the new entry, and one above
  on_level : (l : ℕ) → l < 15 → l < count_trailing_zeros 16 (n + 1) + 1 → Linked (spot es') (link head' links') (n + 1) l
  on_level l q b =
      linked_in (spot es') (link head links) (link head' links') n l (get_or before l 0) (on_from_trailing 16 (n + 1) l (omega arith)) (was l q) (pred' l q) apart' new' (spot_low es')
      (j.here l b) (j.there l b) (λ i h on ne. j.else i l (omega arith) on (λ _. ne))

  past_level : (l : ℕ) → l < 15 → count_trailing_zeros 16 (n + 1) + 1 ≤ l → Linked (spot es') (link head' links') (n + 1) l
  past_level l q b =
      linked_past (spot es') (link head' links') n l (λ on. let t = trailing_from_on 16 (n + 1) l (omega arith) on in omega arith)
      (linked_same (spot es') (spot es') (link head links) (link head' links') n l (λ m _. refl) (λ m h on. j.else m l (omega arith) on (λ c. absurd (omega arith))) (was l q))

  apart_more : Apart (spot es') (n + 1)
  apart_more i m (a, b, z) =
      ⊎_elim
      (λ x. ⊎_elim (λ y. x ∙ sym y) (λ y. absurd (new' m (omega arith) (sym z ∙ ap (spot es') x))) (cases_eq m (n + 1)))
      (λ x. ⊎_elim (λ y. absurd (new' i (omega arith) (z ∙ ap (spot es') y))) (λ y. apart' i m (omega arith, omega arith, z)) (cases_eq m (n + 1)))
      (cases_eq i (n + 1))

  pub grown : Sound es' head' links' (n + 1) p
  grown = record {
    within = omega arith;
    fits = omega (arith, length-set es n e, o.fits);
    room = omega (arith, j.room, o.room);
    few = o.few;
    tall = j.tall ∙ o.tall;
    apart = apart_more;
    linked = λ l q. ⊎_elim (on_level l q) (past_level l q) (cases_lt l (count_trailing_zeros 16 (n + 1) + 1));
  }
