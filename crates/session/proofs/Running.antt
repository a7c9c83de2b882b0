-- What a run does next, by what it finds.
use Rattle.std.proofs.Common.{◌≡◌, ℕ, zero, suc, ◌-◌, ◌<◌, Some, None, Ok, Err, Option, Result, sym, refl, ap, ◌∙◌, arith}
use Rattle.clause.specs.declared.refusal.Refusal.{Refusal}
use Rattle.clause.specs.Refusals.{Told, told, refused}
use Rattle.store.specs.Held.{Held, least_false, entry_at}
use Rattle.session.specs.declared.search.Search.{Search}
use Rattle.session.specs.declared.search.Phase.{Phase}
use Rattle.session.specs.declared.search.Phase.TheVariants.{Unopened, Undecided, Satisfied, Refuted}
use Rattle.session.specs.declared.report.Step.{Step}
use Rattle.session.specs.declared.report.Tally.{Tally}
use Rattle.session.specs.Reports.{Ended, satisfiable, unsatisfiable, stopped, counted}
use Rattle.session.specs.Searching.{satisfied}
use Rattle.session.specs.Steps.{After, after, ended, looks, runs, stepping, step_at}

-- neither refused at the opening nor refuted
pub record Open (p : Phase) : Type 0 where
  pub opened : (e : Refusal) → p ≡ Unopened e → ⊥
  pub unrefuted : (i j : ℕ) → p ≡ Refuted i j → ⊥

module _ (go : ℕ → After (Result Ended Told)) (h : Held) (s : Search) (t : Tally) where
  looks_go : (p : Phase) (f : Option ℕ) (k : ℕ) → Open p → f ≡ Some k → looks go h s t p f ≡ go k
  looks_go (Unopened e) f k n q = absurd (n.opened e refl)
  looks_go (Refuted i j) f k n q = absurd (n.unrefuted i j refl)
  looks_go Undecided None k n q = cc
  looks_go Undecided (Some x) k n q = cc
  looks_go Satisfied None k n q = cc
  looks_go Satisfied (Some x) k n q = cc

  looks_none : (p : Phase) → Open p → looks go h s t p None ≡ ended h (satisfied s) satisfiable t
  looks_none (Unopened e) n = absurd (n.opened e refl)
  looks_none (Refuted i j) n = absurd (n.unrefuted i j refl)
  looks_none Undecided n = refl
  looks_none Satisfied n = refl

module _ (h : Held) (s : Search) (t : Tally) where
  pub runs_unopened : (b : ℕ) (e : Refusal) → s.phase ≡ Unopened e → after h s (Err (told e)) ≡ runs b h s t
  runs_unopened zero e q = rw q
  runs_unopened (suc b) e q = rw q

  pub runs_refuted : (b i j : ℕ) → s.phase ≡ Refuted i j → ended h s unsatisfiable t ≡ runs b h s t
  runs_refuted zero i j q = rw q
  runs_refuted (suc b) i j q = rw q

  module _ (n : Open s.phase) (f : Option ℕ) (q : f ≡ least_false h s.valuation) where
    pub runs_satisfied : (b : ℕ) (s' : Search) → f ≡ None → s' ≡ satisfied s → ended h s' satisfiable t ≡ runs b h s t
    runs_satisfied zero s' e w = rw (w, ← q, e) (sym (looks_none _ h s t s.phase n))
    runs_satisfied (suc b) s' e w = rw (w, ← q, e) (sym (looks_none _ h s t s.phase n))

    pub runs_spent : (b k : ℕ) → b ≡ 0 → f ≡ Some k → ended h s (stopped (refused 14 0)) t ≡ runs b h s t
    runs_spent b k z e = rw z (sym (looks_go _ h s t s.phase (least_false h s.valuation) k n (sym q ∙ e)))

    pub runs_step : (b k : ℕ) (h' : Held) (s' : Search) (m : Step) (t' : Tally) → 0 < b → f ≡ Some k
        → after h' s' (Ok m) ≡ step_at h s k (entry_at h.entries k) → t' ≡ counted t m → runs (b - 1) h' s' t' ≡ runs b h s t
    runs_step zero k h' s' m t' z e a u = absurd (omega arith)
    runs_step (suc b) k h' s' m t' z e a u =
        let l : suc b - 1 ≡ b = omega arith in
        rw (l, u) (ap (stepping (runs b) t) a ∙ sym (looks_go _ h s t s.phase (least_false h s.valuation) k n (sym q ∙ e)))

    pub runs_stopped : (b k : ℕ) (h' : Held) (s' : Search) (x : Told) → 0 < b → f ≡ Some k
        → after h' s' (Err x) ≡ step_at h s k (entry_at h.entries k) → ended h' s' (stopped x) t ≡ runs b h s t
    runs_stopped zero k h' s' x z e a = absurd (omega arith)
    runs_stopped (suc b) k h' s' x z e a =
        ap (stepping (runs b) t) a ∙ sym (looks_go _ h s t s.phase (least_false h s.valuation) k n (sym q ∙ e))
