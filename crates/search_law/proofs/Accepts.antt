-- A clause that is accepted, new or held, keeps the invariant.
use Rattle.std.proofs.Common.{◌≡◌, ℕ, ◌+◌, ◌<◌, ◌≤◌, Bool, true, false, eqb, List, [], ◌∷◌, ◌++◌, length, Some, None, Ok, Err, Option, Result, sym, refl, ap, ◌∙◌, subst, ⊎_elim, arith}
use Rattle.std.proofs.lemmas.List.{get_or_push, get_or_append_left, length_push}
use Rattle.std.proofs.lemmas.Bool.{cases_lt, ne_eqb, eqb-true, eqb-false, cond-true, cond-false, cond_both}
use Rattle.clause.specs.declared.words.Clause.{Clause}
use Rattle.clause.specs.Words.{at}
use Rattle.clause.specs.Clauses.{lits, makes, top}
use Rattle.clause.specs.Reading.{clear}
use Rattle.clause.specs.Refusals.{Told, refused}
use Rattle.clause.proofs.Truths.{top_bound}
use Rattle.store.specs.Held.{Held, size, clause_at, found, full, pushed, after_put, after_put_at, put_answer, put_answer_at}
use Rattle.store.proofs.Finds.{some_found}
use Rattle.session.specs.declared.search.Search.{Search}
use Rattle.session.specs.declared.search.Phase.{Phase}
use Rattle.session.specs.declared.search.Phase.TheVariants.{Unopened, Undecided, Satisfied, Refuted}
use Rattle.session.specs.Reports.{more}
use Rattle.session.specs.Searching.{cleared, withdrawn, one_given, admitted}
use Rattle.session.specs.Steps.{After, after}
use Rattle.session.specs.Calls.{given, put_new, adding, add_clause}
use Rattle.search_law.proofs.Counts.{exact}
use Rattle.search_law.proofs.Entries.{find_push, same_lits}
use Rattle.search_law.proofs.Growth.{Cut, uncut, cut_at, grow, accept}
use Rattle.search_law.proofs.Reasons.{keep_true}
use Rattle.search_law.proofs.Steps.{still}
use Rattle.search_law.specs.Law.{Inv, Onward, Ordinary, Says, last_one}
use Rattle.search_law.specs.Models.{Makes}

-- what makes the accepted clauses and one more true
module _ (acc : List Clause) (c : Clause) (v : ℕ) where
  makes_fewer : Makes v (acc ++ (c ∷ [])) → Makes v acc
  makes_fewer m i l = let n = length_push acc c in subst (λ (x : Clause). makes v (lits x) ≡ true) (get_or_append_left acc (c ∷ []) clear i l) (m i (omega arith))

  makes_last : Makes v (acc ++ (c ∷ [])) → makes v (lits c) ≡ true
  makes_last m = let n = length_push acc c in subst (λ (x : Clause). makes v (lits x) ≡ true) (get_or_push acc c clear (length acc) refl) (m (length acc) (omega arith))

  makes_more : Makes v acc → makes v (lits c) ≡ true → Makes v (acc ++ (c ∷ []))
  makes_more m t i l =
      let n = length_push acc c in
      ⊎_elim
      (λ z. subst (λ (x : Clause). makes v (lits x) ≡ true) (sym (get_or_append_left acc (c ∷ []) clear i z)) (m i z))
      (λ z. subst (λ (x : Clause). makes v (lits x) ≡ true) (sym (get_or_push acc c clear i (omega arith))) t)
      (cases_lt i (length acc))

last_withdrawn : (ph : Phase) → last_one (withdrawn ph) ≡ last_one ph
last_withdrawn (Unopened e) = refl
last_withdrawn Undecided = refl
last_withdrawn Satisfied = refl
last_withdrawn (Refuted i j) = refl

says_withdrawn : (acc : List Clause) (c : Clause) (h h' : Held) (v v' : ℕ) (ph : Phase) → Says acc h v ph → Says (acc ++ (c ∷ [])) h' v' (withdrawn ph)
says_withdrawn acc c h h' v v' (Unopened e) x = x
says_withdrawn acc c h h' v v' Undecided x = tt
says_withdrawn acc c h h' v v' Satisfied x = tt
says_withdrawn acc c h h' v v' (Refuted i j) x = λ w m. x w (makes_fewer acc c w m)

-- c has number k afterwards, and at most one entry is new
pub record Takes (acc : List Clause) (h : Held) (s : Search) (c : Clause) (k : ℕ) (h' : Held) (s' : Search) : Type 0 where
  pub keeps : Inv (acc ++ (c ∷ [])) h' s'
  pub onward : Onward h s h' s'
  pub numbered : found h' c ≡ Some k
  pub one : size h' ≤ size h + 1

-- it is refused only where no place is free
abbrev pub Accepts : List Clause → Held → Search → Clause → Held → Search → Result ℕ Told → Type 0
Accepts acc h s c h' s' (Ok k) = Takes acc h s c k h' s'
Accepts acc h s c h' s' (Err e) = (h' ≡ h) × (s' ≡ s) × (size h ≡ h.places)

abbrev pub AcceptsOf : List Clause → Held → Search → Clause → After (Result ℕ Told) → Type 0
AcceptsOf acc h s c a = Accepts acc h s c a.held a.search a.answer

module _ (acc : List Clause) (h : Held) (s : Search) (I : Inv acc h s) (c : Clause) where
  -- a held clause
  again : (k : ℕ) → found h c ≡ Some k → AcceptsOf acc h s c (after h s (Ok k))
  again k q =
      let r = some_found 1 h.entries c k q in
      let e = same_lits (clause_at h.entries r.index) c r.is in
      record {
        keeps = accept acc (acc ++ (c ∷ [])) h s I (makes_fewer acc c)
            (λ v m n. makes_more acc c v n (ap (makes v) (sym e) ∙ m r.index r.within));
        onward = still h s s refl;
        numbered = q;
        one = omega arith;
      }

  module _ (o : Ordinary s.atoms (lits c)) (n : found h c ≡ None) where
    new_held : (s' : Search) → s'.atoms ≡ s.atoms → Inv (acc ++ (c ∷ [])) (pushed h (given c)) s' → AcceptsOf acc h s c (after (pushed h (given c)) s' (Ok (size h + 1)))
    new_held s' e J =
        let l = length_push h.entries (given c) in
        record {
          keeps = J;
          onward = record { atoms = e; places = refl; more = given c ∷ []; grown = refl };
          numbered = find_push h.entries (given c) 1 n ∙ ap Some (omega arith);
          one = omega arith;
        }

    grown_in : (s' : Search) → Cut s s'
        → ((q : ℕ) → at s'.valuation q ≡ true → top (lits c) < q → makes s'.valuation (lits c) ≡ true)
        → s'.phase ≡ withdrawn s.phase → s'.given ≡ more s.given → s'.made.derivations ≡ s.made.derivations → size h < h.places
        → Inv (acc ++ (c ∷ [])) (pushed h (given c)) s'
    grown_in s' C own ph g d l =
        grow acc h s I s' C (acc ++ (c ∷ [])) (given c)
        (λ v m. (makes_fewer acc c v m, makes_last acc c v m))
        (makes_more acc c)
        own
        o l
        (subst (Says (acc ++ (c ∷ [])) (pushed h (given c)) s'.valuation) (sym ph) (says_withdrawn acc c h (pushed h (given c)) s.valuation s'.valuation s.phase I.says))
        (let x = I.entries in
        let y = (exact acc h s I).next_given in
        let u = ap last_one ph in
        let w = last_withdrawn s.phase in
        omega arith)

    admit_fine : size h < h.places → AcceptsOf acc h s c (after (pushed h (given c)) (admitted s c) (Ok (size h + 1)))
    unfolding cleared
    admit_fine l = cond_both (makes s.valuation (lits c)) (one_given s) (cleared (one_given s) (top (lits c)))
        (λ x. AcceptsOf acc h s c (after (pushed h (given c)) x (Ok (size h + 1))))
        (λ t. new_held (one_given s) refl
        (grown_in (one_given s) (uncut acc h s I (withdrawn s.phase) s.made.derivations (more s.given)) (λ q u m. t) refl refl refl l))
        (λ t. new_held (cleared (one_given s) (top (lits c))) refl
        (grown_in (cleared (one_given s) (top (lits c)))
        (cut_at acc h s I (top (lits c)) (top_bound 64 (lits c)) (withdrawn s.phase) s.made.derivations (more s.given))
        (λ q u m. let w = (keep_true s.valuation (top (lits c)) q u).1 in absurd (omega arith)) refl refl refl l))

    put_fine : (b : Bool) → full h ≡ b → AcceptsOf acc h s c (put_new h s c (put_answer h (given c)))
    put_fine true q =
        let e : put_answer h (given c) ≡ Err (refused 10 0) = ap (put_answer_at h) n ∙ cond-true (full h) (Err (refused 10 0)) (Ok (size h + 1)) q in
        subst (λ (r : Result ℕ Told). AcceptsOf acc h s c (put_new h s c r)) (sym e)
        (ap (after_put_at h (given c)) n ∙ cond-true (full h) h (pushed h (given c)) q, refl, eqb-true (size h) h.places q)
    put_fine false q =
        let e : put_answer h (given c) ≡ Ok (size h + 1) = ap (put_answer_at h) n ∙ cond-false (full h) (Err (refused 10 0)) (Ok (size h + 1)) q in
        let g : after_put h (given c) ≡ pushed h (given c) = ap (after_put_at h (given c)) n ∙ cond-false (full h) h (pushed h (given c)) q in
        let l : size h < h.places = let x = eqb-false (size h) h.places q in let y = I.room in omega arith in
        subst (λ (r : Result ℕ Told). AcceptsOf acc h s c (put_new h s c r)) (sym e)
        (subst (λ (x : Held). AcceptsOf acc h s c (after x (admitted s c) (Ok (size h + 1)))) (sym g) (admit_fine l))

  pub adding_fine : Ordinary s.atoms (lits c) → (x : Option ℕ) → found h c ≡ x → AcceptsOf acc h s c (adding h s c x)
  adding_fine o (Some k) q = again k q
  adding_fine o None q = put_fine o q (full h) refl

  pub accept_fine : Ordinary s.atoms (lits c) → AcceptsOf acc h s c (add_clause h s c (eqb (top (lits c)) 0))
  accept_fine o =
      let z = o.some in
      subst (λ (b : Bool). AcceptsOf acc h s c (add_clause h s c b)) (sym (ne_eqb (top (lits c)) 0 (omega arith))) (adding_fine o (found h c) refl)
