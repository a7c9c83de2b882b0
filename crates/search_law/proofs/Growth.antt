-- The invariant after true atoms were cleared, under another phase, with one entry more, and with another clause accepted.
use Rattle.std.proofs.Common.{◌≡◌, ℕ, ◌+◌, ◌-◌, ◌*◌, ◌^◌, ◌<◌, ◌≤◌, true, false, List, ◌++◌, length, take, replicate, None, sym, refl, ap, ◌∙◌, subst, ⊎_elim, mul-add, arith}
use Rattle.std.proofs.lemmas.List.{length_push}
use Rattle.std.proofs.lemmas.Bool.{cases_lt}
use Rattle.clause.specs.declared.words.Clause.{Clause}
use Rattle.clause.specs.Words.{at, upto}
use Rattle.clause.specs.Clauses.{lits, makes, top}
use Rattle.clause.proofs.Bits.{upto_fits}
use Rattle.clause.proofs.Truths.{makes_agree}
use Rattle.store.specs.declared.entry.Entry.{Entry}
use Rattle.store.specs.Held.{Held, size, clause_at, pushed}
use Rattle.session.specs.declared.search.Search.{Search}
use Rattle.session.specs.declared.search.Phase.{Phase}
use Rattle.session.specs.declared.search.Phase.TheVariants.{Unopened, Undecided, Satisfied, Refuted}
use Rattle.session.specs.Searching.{reason_of, cleared}
use Rattle.search_law.proofs.Entries.{push_each, push_old, push_new}
use Rattle.search_law.proofs.Peaks.{reason_moves, peak_atoms}
use Rattle.search_law.proofs.Reasons.{keep_low, keep_true, clear_low, clear_high, clear_slots}
use Rattle.search_law.specs.Law.{Inv, Reason, Reasoned, Ordinary, Says, last_one}
use Rattle.search_law.specs.Models.{Makes, Models, peak}

-- s' has the true atoms of s up to some atom, with their reasons
pub record Cut (s s' : Search) : Type 0 where
  pub atoms : s'.atoms ≡ s.atoms
  pub true_in : (q : ℕ) → at s'.valuation q ≡ true → at s.valuation q ≡ true
  pub alike : (q : ℕ) → at s'.valuation q ≡ true → (a : ℕ) → a ≤ q → at s.valuation a ≡ at s'.valuation a
  pub same : (q : ℕ) → at s'.valuation q ≡ true → reason_of s' q ≡ reason_of s q
  pub none : (q : ℕ) → at s'.valuation q ≡ false → reason_of s' q ≡ None
  pub fits : s'.valuation < 2 ^ 64
  pub slots : length s'.reasons ≡ 64
  pub settings : s'.made.settings ≡ s.made.settings

module _ (acc : List Clause) (h : Held) (s : Search) (I : Inv acc h s) where
  -- all of them
  pub uncut : (ph : Phase) (d g : ℕ)
      → Cut s (record { atoms = s.atoms; phase = ph; valuation = s.valuation; reasons = s.reasons; made = record { settings = s.made.settings; derivations = d }; given = g })
  uncut ph d g = record {
    atoms = refl;
    true_in = λ q t. t;
    alike = λ q t a l. refl;
    same = λ q t. refl;
    none = I.none;
    fits = I.fits;
    slots = I.slots;
    settings = refl;
  }

  -- those up to t
  pub cut_at : (t : ℕ) → t ≤ 64 → (ph : Phase) (d g : ℕ)
      → Cut s (record {
        atoms = s.atoms;
        phase = ph;
        valuation = upto s.valuation t;
        reasons = take t s.reasons ++ replicate (64 - t) None;
        made = record { settings = s.made.settings; derivations = d };
        given = g;
      })
  unfolding cleared
  cut_at t b ph d g = record {
    atoms = refl;
    true_in = λ q u. (keep_true s.valuation t q u).0;
    alike = λ q u a l. let m = (keep_true s.valuation t q u).1 in sym (keep_low s.valuation t a (omega arith));
    same = λ q u. clear_low s I.slots t q b (keep_true s.valuation t q u).1;
    none = λ q u. ⊎_elim
        (λ l. clear_high s I.slots t q b l)
        (λ l. clear_low s I.slots t q b l ∙ I.none q (sym (keep_low s.valuation t q l) ∙ u))
        (cases_lt t q);
    fits = upto_fits s.valuation t I.fits;
    slots = clear_slots s I.slots t b;
    settings = refl;
  }

  settings_more : (x a n m p y : ℕ) → x ≤ a * n + p → p ≤ a → m ≡ n + 1 → x ≤ a * m + y
  settings_more x a n m p y l k e = let z = mul-add a n 1 in rw e (omega arith)

  module _ (s' : Search) (C : Cut s s') where
    cut_reason : (h' : Held) → ((i : ℕ) → i < size h → (i < size h') × (clause_at h'.entries i ≡ clause_at h.entries i)) → (q : ℕ) → at s'.valuation q ≡ true → Reasoned h' s' q
    cut_reason h' old q t =
        let r = I.reasons q (C.true_in q t) in
        let o = old r.place r.inside in
        record {
          place = r.place;
          kept = C.same q t ∙ r.kept;
          inside = o.0;
          reason = subst (λ (c : Clause). Reason s'.valuation q (lits c)) (sym o.1)
              (reason_moves _ s.valuation s'.valuation q (λ a l. C.alike q t a (omega arith)) r.reason);
        }

    cut_below : (i p : ℕ) → i < size h → at s'.valuation p ≡ true → top (lits (clause_at h.entries i)) < p → makes s'.valuation (lits (clause_at h.entries i)) ≡ true
    cut_below i p l t m = makes_agree s.valuation s'.valuation (lits (clause_at h.entries i)) (λ a x. C.alike p t a (omega arith)) (I.below i p l (C.true_in p t) m)

    ordinary_in : (c : Clause) → Ordinary s.atoms (lits c) → Ordinary s'.atoms (lits c)
    ordinary_in c o = subst (λ (n : ℕ). Ordinary n (lits c)) (sym C.atoms) o

    few_in : s'.atoms ≤ 64
    few_in = let x = I.few in let y = C.atoms in omega arith

    -- the same entries, and no true atom cleared
    pub relabel : s'.valuation ≡ s.valuation → Says acc h s'.valuation s'.phase → s'.given + s'.made.derivations ≡ size h + last_one s'.phase → Inv acc h s'
    relabel e sy n = record {
      to = I.to;
      fro = I.fro;
      reasons = cut_reason h (λ i l. (l, refl));
      none = C.none;
      below = cut_below;
      ordinary = λ i l. ordinary_in (clause_at h.entries i) (I.ordinary i l);
      says = sy;
      few = few_in;
      room = I.room;
      limit = I.limit;
      fits = C.fits;
      slots = C.slots;
      entries = n;
      settings =
          let x = I.settings in
          let y = C.settings in
          let u = ap (λ (v : ℕ). peak v) e in
          let z = ap (λ (a : ℕ). a * size h) C.atoms in
          omega arith;
    }

    -- one entry more
    module _ (acc' : List Clause) (e : Entry) where
      pub grow : ((v : ℕ) → Makes v acc' → Makes v acc × (makes v (lits e.clause) ≡ true))
          → ((v : ℕ) → Makes v acc → makes v (lits e.clause) ≡ true → Makes v acc')
          → ((q : ℕ) → at s'.valuation q ≡ true → top (lits e.clause) < q → makes s'.valuation (lits e.clause) ≡ true)
          → Ordinary s.atoms (lits e.clause) → size h < h.places
          → Says acc' (pushed h e) s'.valuation s'.phase → s'.given + s'.made.derivations ≡ size h + 1 + last_one s'.phase → Inv acc' (pushed h e) s'
      grow to fro own o l sy n =
          let m = length_push h.entries e in
          record {
            to = λ v k. push_each h.entries e (λ c. makes v (lits c) ≡ true) (I.to v (to v k).0) (to v k).1;
            fro = λ v k. fro v
                (I.fro v (λ i q. subst (λ (c : Clause). makes v (lits c) ≡ true) (push_old h.entries e i q) (k i (omega arith))))
                (subst (λ (c : Clause). makes v (lits c) ≡ true) (push_new h.entries e) (k (size h) (omega arith)));
            reasons = cut_reason (pushed h e) (λ i q. (omega arith, push_old h.entries e i q));
            none = C.none;
            below = λ i p q t. push_each h.entries e (λ c. top (lits c) < p → makes s'.valuation (lits c) ≡ true) (λ j r. cut_below j p r t) (own p t) i q;
            ordinary = push_each h.entries e (λ c. Ordinary s'.atoms (lits c)) (λ j r. ordinary_in (clause_at h.entries j) (I.ordinary j r)) (ordinary_in e.clause o);
            says = sy;
            few = few_in;
            room = omega arith;
            limit = I.limit;
            fits = C.fits;
            slots = C.slots;
            entries = omega arith;
            settings =
                let x = settings_more s.made.settings s.atoms (size h) (size (pushed h e)) (peak s.valuation) (peak s'.valuation) I.settings (peak_atoms acc h s I) m in
                let y = C.settings in
                let z = ap (λ (a : ℕ). a * size (pushed h e)) C.atoms in
                omega arith;
          }

-- more clauses accepted, all of them consequences of what is held
pub accept : (acc acc' : List Clause) (h : Held) (s : Search) → Inv acc h s → ((v : ℕ) → Makes v acc' → Makes v acc) → ((v : ℕ) → Models v h → Makes v acc → Makes v acc') → Inv acc' h s
accept acc acc' h s I to fro = record {
  to = λ v m. I.to v (to v m);
  fro = λ v m. fro v m (I.fro v m);
  reasons = I.reasons;
  none = I.none;
  below = I.below;
  ordinary = I.ordinary;
  says = says_for s.phase I.says;
  few = I.few;
  room = I.room;
  limit = I.limit;
  fits = I.fits;
  slots = I.slots;
  entries = I.entries;
  settings = I.settings;
}
  where
    says_for : (ph : Phase) → Says acc h s.valuation ph → Says acc' h s.valuation ph
    says_for (Unopened e) x = x
    says_for Undecided x = x
    says_for Satisfied x = x
    says_for (Refuted i j) x = λ v m. x v (to v m)
