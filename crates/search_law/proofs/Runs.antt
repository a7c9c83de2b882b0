-- A run keeps the invariant, says what holds, and an ample budget is not used up.
use Rattle.std.proofs.Common.{◌≡◌, ℕ, zero, suc, ◌+◌, ◌<◌, ◌≤◌, Bool, true, false, not, ◌&&◌, ◌||◌, ltb, List, Some, None, Ok, Err, Option, Result, sym, refl, ap, ◌∙◌, subst, inl, inr, ⊎_elim, arith}
use Rattle.std.proofs.lemmas.Bool.{cases_eq, cases_lt, cases_Bool, both_ways, ltb-true, ltb-false}
use Rattle.clause.specs.declared.words.Clause.{Clause}
use Rattle.clause.specs.Words.{at}
use Rattle.clause.specs.Clauses.{Literals, lit}
use Rattle.clause.specs.Refusals.{Told, refused}
use Rattle.clause.proofs.Truths.{makes_not, above_top}
use Rattle.store.specs.Held.{Held, Pick, size, entry_at, least_from, number_of}
use Rattle.store.proofs.Leasts.{Law, First, least_law}
use Rattle.session.specs.declared.report.Step.{Step}
use Rattle.session.specs.declared.report.Step.TheVariants.{Setting, Derivation}
use Rattle.session.specs.declared.report.Tally.{Tally}
use Rattle.session.specs.declared.search.Search.{Search}
use Rattle.session.specs.declared.search.Phase.{Phase}
use Rattle.session.specs.declared.search.Phase.TheVariants.{Unopened, Undecided, Satisfied, Refuted}
use Rattle.session.specs.Reports.{satisfiable, stopped, Ended, counted, more, none_made}
use Rattle.session.specs.Searching.{satisfied}
use Rattle.session.specs.Steps.{After, ended, looks, goes_on, stepping, step_at, runs}
use Rattle.session.specs.Calls.{allowed, run_in, show_in}
use Rattle.search_law.proofs.Counts.{exact}
use Rattle.search_law.proofs.Entries.{first_top}
use Rattle.search_law.proofs.Growth.{uncut, relabel}
use Rattle.search_law.proofs.Least.{parts}
use Rattle.search_law.proofs.Peaks.{peak_atoms}
use Rattle.search_law.proofs.Resolve.{no_lit}
use Rattle.search_law.proofs.Steps.{todo, left, Made, Fine, still, onward_on, step_fine}
use Rattle.search_law.specs.Law.{Inv, Reason, Onward, Right, Ran, RunLaw, ShowLaw, Exact, ample, Says, last_one}
use Rattle.search_law.specs.Models.{Makes, Models, Least}

-- a reason of p is false where p is false and all below is as it was
reason_false : (c : Literals) (v w p : ℕ) → Reason v p c → ((a : ℕ) → a < p → at v a ≡ at w a) → at w p ≡ false → (a : ℕ) → a ≤ 64 → lit w c a ≡ false
reason_false c v w p r same f a l =
    let e = r.high in
    ⊎_elim
    (λ z. rw z (off (at w p) (at c.pos p) (at c.neg p) f r.minus))
    (λ n. ⊎_elim (λ z. rw (same a z) at (r.rest a z)) (λ z. no_lit w c a (above_top c a l (omega arith))) (cases_lt a p))
    (cases_eq a p)
  where
    off : (w p n : Bool) → w ≡ false → n ≡ false → (p && w) || (n && not w) ≡ false
    off w p n h k = grind arith

-- where every held clause is true, the valuation is the least that makes the accepted ones true
pub least_model : (acc : List Clause) (h : Held) (s : Search) → Inv acc h s → Models s.valuation h → Least s.valuation acc
least_model acc h s I m = record {
  model = I.fro s.valuation m;
  fits = I.fits;
  lowest = λ w g n d.
      let q = parts s.valuation w I.fits g d in
      let on = forced w n q.atom q.unlike q.alike in
      record {
        atom = q.atom;
        within = q.within;
        on = on;
        alike = q.alike;
        off = ⊎_elim (λ t. absurd (q.unlike (t ∙ sym on))) (λ f. f) (cases_Bool (at s.valuation q.atom));
      };
}
  where
    forced : (w : ℕ) → Makes w acc → (a : ℕ) → (at s.valuation a ≡ at w a → ⊥) → ((b : ℕ) → b < a → at s.valuation b ≡ at w b) → at w a ≡ true
    forced w n a d same = ⊎_elim
        (λ t. t)
        (λ f. ⊎_elim
        (λ t. let r = I.reasons a t in
        absurd (both_ways _ (makes_not 64 w _ (reason_false _ s.valuation w a r.reason same f)) (I.to w n r.place r.inside)))
        (λ g. absurd (d (g ∙ sym f)))
        (cases_Bool (at s.valuation a)))
        (cases_Bool (at w a))

-- what is shown
pub show_law : ShowLaw
show_law acc h s I v e = go s.phase I.says e
  where
    go : (ph : Phase) → Says acc h s.valuation ph → show_in s ph ≡ Ok v → Least v acc
    go (Unopened x) y q = absurd y
    go Undecided y q = let z : ◌≡◌ {A = ℕ} 0 1 = cc in absurd (omega arith)
    go Satisfied y q = let z : s.valuation ≡ v = cc in subst (λ (w : ℕ). Least w acc) z (least_model acc h s I y)
    go (Refuted i j) y q = let z : ◌≡◌ {A = ℕ} 0 1 = cc in absurd (omega arith)

-- the steps t of a run are among those of the session
record Within (t : Tally) (s : Search) : Type 0 where
  settings : t.settings ≤ s.made.settings
  derivations : t.derivations ≤ s.made.derivations

-- how a run that goes on after the steps t ends
record End (acc : List Clause) (h : Held) (s : Search) (t : Tally) (b : ℕ) (h' : Held) (s' : Search) (e : Ended) : Type 0 where
  keeps : Inv acc h' s'
  onward : Onward h s h' s'
  right : Right acc h' s' e.outcome
  unspent : left h s s.phase ≤ b → e.outcome ≡ stopped (refused 14 0) → ⊥
  given : s'.given ≡ s.given
  settings : s.made.settings + e.made.settings ≡ s'.made.settings + t.settings
  derivations : s.made.derivations + e.made.derivations ≡ s'.made.derivations + t.derivations

abbrev RunAs : List Clause → Held → Search → Tally → ℕ → Held → Search → Result Ended Told → Type 0
RunAs acc h s t b h' s' (Ok e) = End acc h s t b h' s' e
RunAs acc h s t b h' s' (Err e) = ⊥

abbrev Run : List Clause → Held → Search → Tally → ℕ → After (Result Ended Told) → Type 0
Run acc h s t b a = RunAs acc h s t b a.held a.search a.answer

more_next : (m n : ℕ) → m ≤ n → more n ≡ n + 1 → more m ≡ m + 1
more_next m n l e = omega arith

-- one step more is counted in both
record Both (s s' : Search) (t t' : Tally) : Type 0 where
  settings : s'.made.settings + t.settings ≡ s.made.settings + t'.settings
  derivations : s'.made.derivations + t.derivations ≡ s.made.derivations + t'.derivations
  within : Within t' s'

both_count : (h : Held) (s s' : Search) (t : Tally) (m : Step) → Exact h s → Within t s → s'.made ≡ counted s.made m → Both s s' t (counted t m)
both_count h s s' t Setting x w e =
    let a = w.settings in
    let b = w.derivations in
    let u = x.next_setting in
    let v = more_next t.settings s.made.settings a u in
    let p = ap (λ (z : Tally). z.settings) e in
    let q = ap (λ (z : Tally). z.derivations) e in
    record { settings = omega arith; derivations = omega arith; within = record { settings = omega arith; derivations = omega arith } }
both_count h s s' t Derivation x w e =
    let a = w.settings in
    let b = w.derivations in
    let u = x.next_derivation in
    let v = more_next t.derivations s.made.derivations b u in
    let p = ap (λ (z : Tally). z.settings) e in
    let q = ap (λ (z : Tally). z.derivations) e in
    record { settings = omega arith; derivations = omega arith; within = record { settings = omega arith; derivations = omega arith } }

-- after a step that was made
extend : (acc : List Clause) (h : Held) (s : Search) (t : Tally) (b : ℕ) (h₁ : Held) (s₁ : Search) (m : Step) (h₂ : Held) (s₂ : Search) (r : Result Ended Told)
    → Made acc h s h₁ s₁ m → Both s s₁ t (counted t m) → RunAs acc h₁ s₁ (counted t m) b h₂ s₂ r → RunAs acc h s t (suc b) h₂ s₂ r
extend acc h s t b h₁ s₁ m h₂ s₂ (Err e) M B x = x
extend acc h s t b h₁ s₁ m h₂ s₂ (Ok e) M B x =
    let p = B.settings in
    let q = B.derivations in
    let y = x.settings in
    let z = x.derivations in
    record {
      keeps = x.keeps;
      onward = onward_on h s h₁ s₁ h₂ s₂ M.onward x.onward;
      right = x.right;
      unspent = λ l. let k = M.less in x.unspent (omega arith);
      given = x.given ∙ M.given;
      settings = omega arith;
      derivations = omega arith;
    }

-- a step that was stopped
halted : (acc : List Clause) (h : Held) (s : Search) (t : Tally) (b : ℕ) (e : Told) → Inv acc h s → e ≡ refused 10 0 → size h ≡ h.places → End acc h s t b h s (record { outcome = stopped e; made = t })
halted acc h s t b e I q l = record {
  keeps = I;
  onward = still h s s refl;
  right = inl (q, l);
  unspent = λ _ z. let w : e ≡ refused 14 0 = cc in absurd (torn (sym q ∙ w));
  given = refl;
  settings = refl;
  derivations = refl;
}
  where
    torn : refused 10 0 ≡ refused 14 0 → ⊥
    torn z = let w : ◌≡◌ {A = ℕ} 10 14 = ap (λ (x : Told). x.number) z in omega arith

module _ (acc : List Clause) (b : ℕ) (ih : (h : Held) (s : Search) (t : Tally) → Inv acc h s → Within t s → Run acc h s t b (runs b h s t)) where
  goes_fine : (h : Held) (s : Search) (t : Tally) → Inv acc h s → Within t s → (h₁ : Held) (s₁ : Search) (r : Result Step Told) → Fine acc h s h₁ s₁ r → Run acc h s t (suc b) (goes_on (runs b) t h₁ s₁ r)
  goes_fine h s t I w h₁ s₁ (Ok m) M =
      let B = both_count h s s₁ t m (exact acc h s I) w M.tally in
      let a = runs b h₁ s₁ (counted t m) in
      extend acc h s t b h₁ s₁ m a.held a.search a.answer M B (ih h₁ s₁ (counted t m) M.keeps B.within)
  goes_fine h s t I w h₁ s₁ (Err e) (p, q, x, y) =
      subst (λ (g : Held). Run acc h s t (suc b) (goes_on (runs b) t g s₁ (Err e))) (sym p)
      (subst (λ (z : Search). Run acc h s t (suc b) (goes_on (runs b) t h z (Err e))) (sym q)
      (halted acc h s t (suc b) e I x y))

-- before a step
module _ (acc : List Clause) (h : Held) (s : Search) (t : Tally) (b : ℕ) (I : Inv acc h s) (go : ℕ → After (Result Ended Told)) where
  sat_end : (ph : Phase) → s.phase ≡ ph → last_one ph ≡ 0 → Models s.valuation h → Run acc h s t b (ended h (satisfied s) satisfiable t)
  sat_end ph e z m = record {
    keeps = relabel acc h s I (satisfied s) (uncut acc h s I Satisfied s.made.derivations s.given) refl m
        (let x = I.entries in let y = ap last_one e in omega arith);
    onward = still h s (satisfied s) refl;
    right = (refl, least_model acc h s I m);
    unspent = λ _ q. let w : ◌≡◌ {A = ℕ} 0 1 = cc in absurd (omega arith);
    given = refl;
    settings = refl;
    derivations = refl;
  }

  looks_fine : (ph : Phase) → s.phase ≡ ph → (o : Option Pick) → Law 1 h.entries s.valuation o
      → ((p : Pick) → First 1 h.entries s.valuation p → s.phase ≡ Undecided → Run acc h s t b (go p.number))
      → Run acc h s t b (looks go h s t ph (number_of o))
  looks_fine (Unopened e) q o l k = absurd (subst (Says acc h s.valuation) q I.says)
  looks_fine (Refuted i j) q o l k = record {
    keeps = I;
    onward = still h s s refl;
    right = subst (Says acc h s.valuation) q I.says;
    unspent = λ _ z. let w : ◌≡◌ {A = ℕ} 0 1 = cc in absurd (omega arith);
    given = refl;
    settings = refl;
    derivations = refl;
  }
  looks_fine Satisfied q None l k = sat_end Satisfied q refl l
  looks_fine Satisfied q (Some p) l k = absurd (both_ways _ l.untrue (subst (Says acc h s.valuation) q I.says l.index l.within))
  looks_fine Undecided q None l k = sat_end Undecided q refl l
  looks_fine Undecided q (Some p) l k = k p l q

-- the budget is used up
spent : (acc : List Clause) (h : Held) (s : Search) (t : Tally) → Inv acc h s → s.phase ≡ Undecided → Run acc h s t 0 (ended h s (stopped (refused 14 0)) t)
spent acc h s t I q = record {
  keeps = I;
  onward = still h s s refl;
  right = inr refl;
  unspent = λ l _. let e : left h s s.phase ≡ todo h s = ap (left h s) q in let k = peak_atoms acc h s I in absurd (omega arith);
  given = refl;
  settings = refl;
  derivations = refl;
}

runs_fine : (acc : List Clause) (b : ℕ) (h : Held) (s : Search) (t : Tally) → Inv acc h s → Within t s → Run acc h s t b (runs b h s t)
runs_fine acc zero h s t I w =
    looks_fine acc h s t 0 I (λ k. ended h s (stopped (refused 14 0)) t) s.phase refl (least_from 1 h.entries s.valuation) (least_law 1 h.entries s.valuation)
    (λ p l q. spent acc h s t I q)
runs_fine acc (suc b) h s t I w =
    looks_fine acc h s t (suc b) I (λ k. stepping (runs b) t (step_at h s k (entry_at h.entries k))) s.phase refl (least_from 1 h.entries s.valuation) (least_law 1 h.entries s.valuation)
    (λ p l q.
    let a = step_at h s p.number (entry_at h.entries p.number) in
    let n = l.number in
    goes_fine acc b (runs_fine acc b) h s t I w a.held a.search a.answer
    (step_fine acc h s I q l.index l.within l.untrue (first_top h.entries s.valuation p l) p.number (omega arith)))

-- the call
left_ample : (h : Held) (s : Search) (ph : Phase) → left h s ph ≤ ample h s
left_ample h s (Unopened e) = omega arith
left_ample h s Undecided = omega arith
left_ample h s Satisfied = omega arith
left_ample h s (Refuted i j) = omega arith

ran : (acc : List Clause) (h : Held) (s : Search) (b : ℕ) → b ≤ 2000000 → (h' : Held) (s' : Search) (r : Result Ended Told) → RunAs acc h s none_made b h' s' r → Ran acc h s b h' s' r
ran acc h s b l h' s' (Err e) x = absurd x
ran acc h s b l h' s' (Ok e) x =
    let p = x.settings in
    let q = x.derivations in (
      l,
      record {
        keeps = x.keeps;
        onward = x.onward;
        right = x.right;
        given = x.given;
        settings = omega arith;
        derivations = omega arith;
        unspent = λ m. let k = left_ample h s s.phase in x.unspent (omega arith);
      },
    )

abbrev RanOf : List Clause → Held → Search → ℕ → After (Result Ended Told) → Type 0
RanOf acc h s b a = Ran acc h s b a.held a.search a.answer

allowed_fine : (acc : List Clause) (h : Held) (s : Search) (b : ℕ) → Inv acc h s → (t : Bool) → ltb 2000000 b ≡ t → RanOf acc h s b (allowed h s b t)
allowed_fine acc h s b I true q = (refl, ltb-true 2000000 b q, refl, refl)
allowed_fine acc h s b I false q =
    let a = runs b h s none_made in
    ran acc h s b (ltb-false 2000000 b q) a.held a.search a.answer
    (runs_fine acc b h s none_made I (record { settings = omega arith; derivations = omega arith }))

pub run_law : RunLaw
run_law acc h s I b = go s.phase I.says
  where
    go : (ph : Phase) → Says acc h s.valuation ph → RanOf acc h s b (run_in h s b ph)
    go (Unopened e) x = absurd x
    go Undecided x = allowed_fine acc h s b I (ltb 2000000 b) refl
    go Satisfied x = allowed_fine acc h s b I (ltb 2000000 b) refl
    go (Refuted i j) x = allowed_fine acc h s b I (ltb 2000000 b) refl
