-- A step keeps the invariant, or is stopped for want of a place, and leaves less to do.
use Rattle.std.proofs.Common.{◌≡◌, ℕ, suc, ◌+◌, ◌-◌, ◌*◌, ◌<◌, ◌≤◌, Bool, true, false, eqb, List, [], ◌∷◌, ◌++◌, Ok, Err, Option, Result, sym, refl, ap, ◌∙◌, subst, arith}
use Rattle.std.proofs.lemmas.List.{append-nil, append_assoc, length_push}
use Rattle.std.proofs.lemmas.Bool.{eqb-true, eqb-false}
use Rattle.clause.specs.declared.words.Clause.{Clause}
use Rattle.clause.specs.Words.{at}
use Rattle.clause.specs.Clauses.{lits, makes, top}
use Rattle.clause.specs.Refusals.{Told, refused}
use Rattle.clause.proofs.Truths.{empty_false, top_bound}
use Rattle.store.specs.declared.entry.Entry.{Entry}
use Rattle.store.specs.Held.{Held, size, clause_at, entry_at, full, pushed}
use Rattle.store.proofs.Meanings.{entry_there}
use Rattle.session.specs.declared.report.Step.{Step}
use Rattle.session.specs.declared.report.Step.TheVariants.{Setting, Derivation}
use Rattle.session.specs.declared.search.Search.{Search}
use Rattle.session.specs.declared.search.Phase.{Phase}
use Rattle.session.specs.declared.search.Phase.TheVariants.{Unopened, Undecided, Satisfied, Refuted}
use Rattle.session.specs.Reports.{counted, more}
use Rattle.session.specs.Searching.{reason_of, setting, cleared, derived, refuted}
use Rattle.session.specs.Steps.{After, after, putting, deriving_one, resolving, with_reason_entry, with_reason, acting, at_top, step_at}
use Rattle.search_law.proofs.Counts.{exact}
use Rattle.search_law.proofs.Derivations.{reasoned, drawn, d, new, drawn_follows, drawn_ordinary, drawn_put}
use Rattle.search_law.proofs.Growth.{uncut, cut_at, relabel, grow}
use Rattle.search_law.proofs.Peaks.{peak_atoms}
use Rattle.search_law.proofs.Reasons.{keep_true}
use Rattle.search_law.proofs.Settings.{set_keeps, set_rises, set_peak}
use Rattle.search_law.specs.Law.{Inv, Onward, Says, last_one}
use Rattle.search_law.specs.Models.{peak}

-- the most steps that can follow
abbrev pub todo : Held → Search → ℕ
todo h s = (h.places - size h) * (s.atoms + 1) + (s.atoms + 1 - peak s.valuation)

abbrev pub left : Held → Search → Phase → ℕ
left h s (Unopened e) = todo h s
left h s Undecided = todo h s
left h s Satisfied = todo h s
left h s (Refuted i j) = 0

-- what a step that was made leaves
pub record Made (acc : List Clause) (h : Held) (s : Search) (h' : Held) (s' : Search) (m : Step) : Type 0 where
  pub keeps : Inv acc h' s'
  pub onward : Onward h s h' s'
  pub less : left h' s' s'.phase < left h s s.phase
  pub tally : s'.made ≡ counted s.made m
  pub given : s'.given ≡ s.given

abbrev pub Fine : List Clause → Held → Search → Held → Search → Result Step Told → Type 0
Fine acc h s h' s' (Ok m) = Made acc h s h' s' m
Fine acc h s h' s' (Err e) = (h' ≡ h) × (s' ≡ s) × (e ≡ refused 10 0) × (size h ≡ h.places)

abbrev pub StepsFine : List Clause → Held → Search → After (Result Step Told) → Type 0
StepsFine acc h s a = Fine acc h s a.held a.search a.answer

-- the entries as they were
pub still : (h : Held) (s s' : Search) → s'.atoms ≡ s.atoms → Onward h s h s'
still h s s' e = record { atoms = e; places = refl; more = []; grown = sym (append-nil h.entries) }

-- one call after the other
pub onward_on : (h : Held) (s : Search) (h₁ : Held) (s₁ : Search) (h₂ : Held) (s₂ : Search) → Onward h s h₁ s₁ → Onward h₁ s₁ h₂ s₂ → Onward h s h₂ s₂
onward_on h s h₁ s₁ h₂ s₂ x y = record {
  atoms = y.atoms ∙ x.atoms;
  places = y.places ∙ x.places;
  more = x.more ++ y.more;
  grown = y.grown ∙ ap (λ es. es ++ y.more) x.grown ∙ append_assoc h.entries x.more y.more;
}

falls : (f n x y : ℕ) → x ≤ n → 0 < y → f * n + x < suc f * n + y
falls f n x y h k = omega arith

-- entry i is the first false clause
module _ (acc : List Clause) (h : Held) (s : Search) (I : Inv acc h s) (ph : s.phase ≡ Undecided) (i : ℕ) (li : i < size h)
    (f : makes s.valuation (lits (clause_at h.entries i)) ≡ false)
    (first : (k : ℕ) → k < size h → makes s.valuation (lits (clause_at h.entries k)) ≡ false → top (lits (clause_at h.entries i)) ≤ top (lits (clause_at h.entries k))) where
  abbrev c : Clause
  c = clause_at h.entries i

  abbrev p : ℕ
  p = top (lits c)

  now_left : left h s s.phase ≡ todo h s
  now_left = ap (left h s) ph

  no_last : last_one s.phase ≡ 0
  no_last = ap last_one ph

  more_derivations : more s.made.derivations ≡ s.made.derivations + 1
  more_derivations = (exact acc h s I).next_derivation

  set_fine : at c.positive p ≡ true → StepsFine acc h s (after h (setting s p (suc i)) (Ok Setting))
  unfolding setting
  set_fine plus =
      let x = set_rises acc h s I i li f plus in
      let y = set_peak acc h s I i li f plus in
      let z = (I.ordinary i li).within in
      let e = now_left in
      let g : left h (setting s p (suc i)) s.phase ≡ todo h (setting s p (suc i)) = ap (left h (setting s p (suc i))) ph in
      record {
        keeps = set_keeps acc h s I i li f plus first;
        onward = still h s (setting s p (suc i)) refl;
        less = omega arith;
        tally = refl;
        given = refl;
      }

  module _ (minus : at c.positive p ≡ false) where
    abbrev r : ℕ
    r = suc (reasoned acc h s I i li f minus).place

    abbrev D : Clause
    D = d acc h s I i li f minus

    abbrev N : Entry
    N = new acc h s I i li f minus

    refute_fine : top (lits D) ≡ 0 → StepsFine acc h s (after h (refuted s r (suc i)) (Ok Derivation))
    refute_fine z =
        let e = now_left in
        let x = peak_atoms acc h s I in
        record {
          keeps = relabel acc h s I (refuted s r (suc i)) (uncut acc h s I (Refuted r (suc i)) (more s.made.derivations) s.given) refl
              (λ v m. empty_false v (lits D) z (drawn_follows acc h s I i li f minus v m))
              (let u = I.entries in let w = no_last in let y = more_derivations in omega arith);
          onward = still h s (refuted s r (suc i)) refl;
          less = omega arith;
          tally = refl;
          given = refl;
        }

    put_fine : 0 < top (lits D) → size h < h.places → StepsFine acc h s (after (pushed h N) (derived s (top (lits D))) (Ok Derivation))
    unfolding cleared
    put_fine z l =
        let s' = derived s (top (lits D)) in
        let m = length_push h.entries N in
        let e = now_left in
        let g : left (pushed h N) s' s.phase ≡ todo (pushed h N) s' = ap (left (pushed h N) s') ph in
        let x = peak_atoms acc h s I in
        let q : h.places - size h ≡ suc (h.places - size (pushed h N)) = omega arith in
        let n = falls (h.places - size (pushed h N)) (s.atoms + 1) (s.atoms + 1 - peak s'.valuation) (s.atoms + 1 - peak s.valuation) (omega arith) (omega arith) in
        let k : todo (pushed h N) s' < todo h s = rw q n in
        record {
          keeps = grow acc h s I s' (cut_at acc h s I (top (lits D)) (top_bound 64 (lits D)) s.phase (more s.made.derivations) s.given) acc N
              (λ v y. (y, drawn_follows acc h s I i li f minus v y))
              (λ v y _. y)
              (λ a t y. let w = (keep_true s.valuation (top (lits D)) a t).1 in absurd (omega arith))
              (drawn_ordinary acc h s I i li f minus z) l
              (subst (Says acc (pushed h N) s'.valuation) (sym ph) tt)
              (let u = I.entries in let w = no_last in let y = more_derivations in omega arith);
          onward = record { atoms = refl; places = refl; more = N ∷ []; grown = refl };
          less = omega arith;
          tally = refl;
          given = refl;
        }

    putting_fine : 0 < top (lits D) → (b : Bool) → full h ≡ b → StepsFine acc h s (putting h s r (suc i) D b)
    putting_fine z true q = (refl, refl, refl, eqb-true (size h) h.places q)
    putting_fine z false q =
        let e = drawn_put acc h s I i li f minus q in
        let l : size h < h.places = let x = eqb-false (size h) h.places q in let y = I.room in omega arith in
        subst (λ (g : Held). StepsFine acc h s (after g (derived s (top (lits D))) (Ok Derivation))) (sym e) (put_fine z l)

    deriving_fine : (b : Bool) → eqb (top (lits D)) 0 ≡ b → StepsFine acc h s (deriving_one h s r (suc i) D b)
    deriving_fine true q = refute_fine (eqb-true (top (lits D)) 0 q)
    deriving_fine false q = putting_fine (let x = eqb-false (top (lits D)) 0 q in omega arith) (full h) refl

    resolving_fine : StepsFine acc h s (with_reason h s (suc i) c (reason_of s p))
    resolving_fine =
        let R = reasoned acc h s I i li f minus in
        let W = drawn acc h s I i li f minus in
        subst (λ (o : Option ℕ). StepsFine acc h s (with_reason h s (suc i) c o)) (sym R.kept)
        (subst (λ (o : Option Entry). StepsFine acc h s (with_reason_entry h s (suc i) c r o)) (sym (entry_there h.entries R.place R.inside))
        (subst (λ (o : Option Clause). StepsFine acc h s (resolving h s r (suc i) o)) (sym W.is)
        (deriving_fine (eqb (top (lits D)) 0) refl)))

  acting_fine : (b : Bool) → at c.positive p ≡ b → StepsFine acc h s (acting h s (suc i) c b)
  acting_fine true q = set_fine q
  acting_fine false q = resolving_fine q

  top_fine : (b : Bool) → eqb p 0 ≡ b → StepsFine acc h s (at_top h s (suc i) c b)
  top_fine true q = let x = eqb-true p 0 q in let y = (I.ordinary i li).some in absurd (omega arith)
  top_fine false q = acting_fine (at c.positive p) refl

  pub step_fine : (k : ℕ) → k ≡ suc i → StepsFine acc h s (step_at h s k (entry_at h.entries k))
  step_fine k e =
      subst (λ (n : ℕ). StepsFine acc h s (step_at h s n (entry_at h.entries n))) (sym e)
      (subst (λ (o : Option Entry). StepsFine acc h s (step_at h s (suc i) o)) (sym (entry_there h.entries i li)) (top_fine (eqb p 0) refl))
