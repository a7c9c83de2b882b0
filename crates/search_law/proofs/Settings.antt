-- A setting keeps the invariant, and raises the highest true atom.
use Rattle.std.proofs.Common.{◌≡◌, ℕ, suc, ◌-◌, ◌<◌, ◌≤◌, true, false, List, None, sym, refl, ◌∙◌, subst, ⊎_elim, arith}
use Rattle.std.proofs.lemmas.Bool.{cases_eq, cases_Bool, both_ways}
use Rattle.clause.specs.declared.words.Clause.{Clause}
use Rattle.clause.specs.Words.{at, with_atom}
use Rattle.clause.specs.Clauses.{Literals, lits, makes, top}
use Rattle.clause.proofs.Bits.{with_fits}
use Rattle.clause.proofs.Truths.{makes_none, makes_agree, top_bound}
use Rattle.store.specs.Held.{Held, size, clause_at}
use Rattle.session.specs.declared.search.Search.{Search}
use Rattle.session.specs.declared.search.Phase.{Phase}
use Rattle.session.specs.declared.search.Phase.TheVariants.{Unopened, Undecided, Satisfied, Refuted}
use Rattle.session.specs.Searching.{reason_of, setting}
use Rattle.search_law.proofs.Peaks.{peak_le, peak_most, plus_off, reason_moves, more_le, under}
use Rattle.search_law.proofs.Reasons.{with_other, with_same, set_same, set_other, set_slots}
use Rattle.search_law.specs.Law.{Inv, Reasoned, Says}
use Rattle.search_law.specs.Models.{peak}

-- what a phase says, where a held clause is false
says_on : (acc : List Clause) (h : Held) (v w i : ℕ) → i < size h → makes v (lits (clause_at h.entries i)) ≡ false → (ph : Phase) → Says acc h v ph → Says acc h w ph
says_on acc h v w i l f (Unopened e) x = x
says_on acc h v w i l f Undecided x = x
says_on acc h v w i l f Satisfied x = absurd (both_ways _ f (x i l))
says_on acc h v w i l f (Refuted j k) x = x

-- entry i is a false clause whose highest literal is positive, and no false clause has a lower highest atom
module _ (acc : List Clause) (h : Held) (s : Search) (I : Inv acc h s) (i : ℕ) (li : i < size h)
    (f : makes s.valuation (lits (clause_at h.entries i)) ≡ false)
    (plus : at (clause_at h.entries i).positive (top (lits (clause_at h.entries i))) ≡ true) where
  abbrev c : Literals
  c = lits (clause_at h.entries i)

  abbrev p : ℕ
  p = top c

  abbrev v : ℕ
  v = s.valuation

  abbrev w : ℕ
  w = with_atom v p

  bound : p ≤ 64
  bound = top_bound 64 c

  some : 0 < p
  some = (I.ordinary i li).some

  off : (at v p ≡ false) × (at c.neg p ≡ false)
  off = plus_off v p c bound f plus

  low : (q : ℕ) → at v q ≡ true → q < p
  low q t =
      let l = under acc h s I i li f q t in
      ⊎_elim (λ z. absurd (both_ways _ off.0 (rw z at t))) (λ z. omega arith) (cases_eq q p)

  pub set_rises : peak v < p
  set_rises = let x = some in let y = peak_most v (p - 1) (λ q t. let z = low q t in omega arith) in omega arith

  was : (q : ℕ) → (q ≡ p → ⊥) → at w q ≡ at v q
  was q n = with_other v p q some n

  most : (q : ℕ) → at w q ≡ true → q ≤ p
  most q t = ⊎_elim (λ z. omega arith) (λ n. let z = low q (sym (was q n) ∙ t) in omega arith) (cases_eq q p)

  pub set_peak : peak w ≡ p
  set_peak = let x = peak_le w p bound (with_same v p some) in let y = peak_most w p most in omega arith

  alike : (a : ℕ) → a < p → at v a ≡ at w a
  alike a l = sym (was a (omega arith))

  set_reasons : (q : ℕ) → at w q ≡ true → Reasoned h (setting s p (suc i)) q
  unfolding setting
  set_reasons q t = ⊎_elim
      (λ z. subst (Reasoned h (setting s p (suc i))) (sym z) (record {
        place = i;
        kept = set_same s I.slots p (suc i) some bound;
        inside = li;
        reason = record { high = refl; plus = plus; minus = off.1; rest = λ a l. rw (alike a l) at (makes_none 64 v c f a (let b = bound in omega arith)) };
      }))
      (λ n. let u = sym (was q n) ∙ t in
      let l = low q u in
      let r = I.reasons q u in
      record {
        place = r.place;
        kept = set_other s I.slots p (suc i) q some n ∙ r.kept;
        inside = r.inside;
        reason = reason_moves _ v w q (λ a m. alike a (omega arith)) r.reason;
      })
      (cases_eq q p)

  set_none : (q : ℕ) → at w q ≡ false → reason_of (setting s p (suc i)) q ≡ None
  set_none q t = ⊎_elim
      (λ z. absurd (both_ways (at w p) (rw z at t) (with_same v p some)))
      (λ n. set_other s I.slots p (suc i) q some n ∙ I.none q (sym (was q n) ∙ t))
      (cases_eq q p)

  pub set_keeps : ((k : ℕ) → k < size h → makes v (lits (clause_at h.entries k)) ≡ false → p ≤ top (lits (clause_at h.entries k)))
      → Inv acc h (setting s p (suc i))
  unfolding setting
  set_keeps first = record {
    to = I.to;
    fro = I.fro;
    reasons = set_reasons;
    none = set_none;
    below = λ k q l t m.
        let le = most q t in
        ⊎_elim
        (λ y. makes_agree v w (lits (clause_at h.entries k)) (λ a x. alike a (omega arith)) y)
        (λ g. let z = first k l g in absurd (omega arith))
        (cases_Bool (makes v (lits (clause_at h.entries k))));
    ordinary = I.ordinary;
    says = says_on acc h v w i li f s.phase I.says;
    few = I.few;
    room = I.room;
    limit = I.limit;
    fits = with_fits v p bound I.fits;
    slots = set_slots s I.slots p (suc i);
    entries = I.entries;
    settings =
        let x = I.settings in
        let y = more_le s.made.settings in
        let z = set_rises in
        let u = set_peak in
        omega arith;
  }
