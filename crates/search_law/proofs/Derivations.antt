-- What a derivation gives.
use Rattle.std.proofs.Common.{◌≡◌, ℕ, suc, ◌+◌, ◌^◌, ◌<◌, true, false, List, get_or, None, Ok, Err, sym, refl, ap, ◌∙◌, subst, ⊎_elim, arith}
use Rattle.std.proofs.lemmas.Bool.{cases_Bool, both_ways, cond-false}
use Rattle.clause.specs.declared.words.Clause.{Clause}
use Rattle.clause.specs.Words.{at}
use Rattle.clause.specs.Clauses.{Literals, lits, makes, top, joined, same}
use Rattle.clause.specs.Refusals.{refused}
use Rattle.clause.proofs.Truths.{makes_not, top_has, top_bound}
use Rattle.store.specs.declared.entry.Entry.{Entry}
use Rattle.store.specs.Held.{Held, size, blank, clause_at, found, full, pushed, after_put, after_put_at, put_answer_at}
use Rattle.store.proofs.Finds.{find_none}
use Rattle.store.proofs.Meanings.{entry_there}
use Rattle.session.specs.declared.search.Search.{Search}
use Rattle.search_law.proofs.Entries.{same_lits}
use Rattle.search_law.proofs.Peaks.{minus_on}
use Rattle.search_law.proofs.Resolve.{Pair, Words, clause_of_lem, join_sound, join_false, join_lower, join_apart, join_pos_fits, join_neg_fits}
use Rattle.search_law.specs.Law.{Inv, Reasoned, Ordinary, Derived}
use Rattle.search_law.specs.Models.{Makes}

-- entry i is a false clause whose highest literal is negative
module _ (acc : List Clause) (h : Held) (s : Search) (I : Inv acc h s) (i : ℕ) (li : i < size h)
    (f : makes s.valuation (lits (clause_at h.entries i)) ≡ false)
    (minus : at (clause_at h.entries i).positive (top (lits (clause_at h.entries i))) ≡ false) where
  abbrev c : Literals
  c = lits (clause_at h.entries i)

  abbrev p : ℕ
  p = top c

  abbrev v : ℕ
  v = s.valuation

  some : 0 < p
  some = (I.ordinary i li).some

  on : at v p ≡ true
  on = minus_on v p c (top_bound 64 c) f (top_has 64 c some) minus

  -- the reason of p
  pub reasoned : Reasoned h s p
  reasoned = I.reasons p on

  abbrev r : Literals
  r = lits (clause_at h.entries reasoned.place)

  pair : Pair v p r c
  pair =
      let q = reasoned.reason in
      record { some = some; high_r = q.high; high_c = refl; minus_r = q.minus; plus_c = minus; rest = q.rest; untrue = f }

  pos_fits : (joined r c p).pos < 2 ^ 64
  pos_fits = join_pos_fits r c p (I.ordinary reasoned.place reasoned.inside).pos_fits (I.ordinary i li).pos_fits

  neg_fits : (joined r c p).neg < 2 ^ 64
  neg_fits = join_neg_fits r c p (I.ordinary reasoned.place reasoned.inside).neg_fits (I.ordinary i li).neg_fits

  -- the derived clause
  pub drawn : Words (joined r c p)
  drawn = clause_of_lem (joined r c p) (join_apart v p r c pair pos_fits neg_fits)

  abbrev pub d : Clause
  d = drawn.clause

  at_joined : (P : Literals → Type 0) → P (joined r c p) → P (lits d)
  at_joined P x = subst P (sym drawn.words) x

  pub drawn_lower : top (lits d) < p
  drawn_lower = at_joined (λ x. top x < p) (join_lower v p r c pair)

  pub drawn_false : makes v (lits d) ≡ false
  drawn_false = at_joined (λ x. makes v x ≡ false) (makes_not 64 v (joined r c p) (join_false v p r c pair))

  pub drawn_follows : (w : ℕ) → Makes w acc → makes w (lits d) ≡ true
  drawn_follows w m = at_joined (λ x. makes w x ≡ true)
      (join_sound w r c p pair.minus_r pair.plus_c (I.to w m reasoned.place reasoned.inside) (I.to w m i li))

  pub drawn_ordinary : 0 < top (lits d) → Ordinary s.atoms (lits d)
  drawn_ordinary z =
      let l = drawn_lower in
      let m = (I.ordinary i li).within in
      record { some = z; within = omega arith; pos_fits = at_joined (λ x. x.pos < 2 ^ 64) pos_fits; neg_fits = at_joined (λ x. x.neg < 2 ^ 64) neg_fits }

  -- a held clause so low is true
  pub drawn_fresh : found h d ≡ None
  drawn_fresh = find_none 1 h.entries d (λ j l. ⊎_elim
      (λ t. let e = same_lits (clause_at h.entries j) d t in
      absurd (both_ways (makes v (lits (clause_at h.entries j)))
      (ap (makes v) e ∙ drawn_false)
      (I.below j p l on (subst (λ (x : Literals). top x < p) (sym e) drawn_lower))))
      (λ t. t)
      (cases_Bool (same (clause_at h.entries j) d)))

  abbrev pub new : Entry
  new = record { clause = d; first = suc reasoned.place; second = suc i }

  pub drawn_put : full h ≡ false → after_put h new ≡ pushed h new
  drawn_put q = ap (after_put_at h new) drawn_fresh ∙ cond-false (full h) h (pushed h new) q

  pub derives : Derived h s (suc i) (clause_at h.entries i)
  derives = record {
    reason = suc reasoned.place;
    entry = get_or h.entries reasoned.place blank;
    kept = reasoned.kept;
    held = entry_there h.entries reasoned.place reasoned.inside;
    clause = d;
    is = drawn.is;
    lower = drawn_lower;
    untrue = drawn_false;
    fresh = drawn_fresh;
    numbered = λ q. ap (put_answer_at h) drawn_fresh ∙ cond-false (full h) (Err (refused 10 0)) (Ok (size h + 1)) q;
    put = drawn_put;
  }
