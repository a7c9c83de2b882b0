-- A text in a session of its own.
use Rattle.std.proofs.Common.{◌≡◌, ℕ, ◌≤◌, List, [], length, Ok, Err, Result, sym, refl, ap, ◌∙◌, subst, arith}
use Rattle.clause.specs.declared.words.Clause.{Clause}
use Rattle.clause.specs.Refusals.{Told}
use Rattle.dimacs.specs.Walk.{Parsed, parse}
use Rattle.store.specs.Held.{Held, size}
use Rattle.session.specs.declared.search.Search.{Search}
use Rattle.session.specs.Reports.{Ended}
use Rattle.session.specs.Calls.{opened, run}
use Rattle.search_law.proofs.Loads.{load_law}
use Rattle.search_law.proofs.Opens.{open_law, none_held}
use Rattle.search_law.proofs.Runs.{run_law}
use Rattle.search_law.specs.Law.{Inv, Unfit, Loaded, Ending, Ran}
use Rattle.search_law.specs.Texts.{fed, DecideLaw}

-- a run within the bound on budgets is not refused
ran : (cs : List Clause) (h : Held) (s : Search) (b : ℕ) → b ≤ 2000000 → (h' : Held) (s' : Search) (r : Result Ended Told) → Ran cs h s b h' s' r → (e : Ended) × (r ≡ Ok e) × Ending cs h s b h' s' e
ran cs h s b l h' s' (Ok e) x = (e, refl, x.1)
ran cs h s b l h' s' (Err e) x = let z = x.1 in absurd (omega arith)

-- a load with a place for each clause is not refused
module _ (n : ℕ) (h : Held) (s : Search) (bs : List ℕ) (p : Parsed) (e : parse s.atoms bs ≡ Ok p) (empty : size h ≡ 0) (l : length p.clauses ≤ h.places) where
  loaded : (h' : Held) (s' : Search) (r : Result ℕ Told) → Loaded [] h s bs h' s' r → (r ≡ Ok (length p.clauses)) × Inv p.clauses h' s'
  loaded h' s' (Ok m) (q, f, k, x) =
      let g : p ≡ q = same_parsed p q (sym e ∙ f) in
      subst (λ (y : Parsed). ◌≡◌ {A = Result ℕ Told} (Ok m) (Ok (length y.clauses)) × Inv y.clauses h' s') (sym g) (ap Ok k, x.keeps)
    where
      same_parsed : (x y : Parsed) → ◌≡◌ {A = Result Parsed Told} (Ok x) (Ok y) → x ≡ y
      same_parsed x y q = cc
  loaded h' s' (Err x) (_, _, u) = let y = (subst (λ (r : Result Parsed Told). Unfit h r x) e u).1 in absurd (omega arith)

pub decide_law : DecideLaw
decide_law n h k d bs p e l b m =
    let I = open_law n h k d in
    let a = fed n h bs in
    let x = loaded n h (opened n h) bs p e (none_held n h d) l a.held a.search a.answer (load_law [] h (opened n h) I bs) in
    let z = run a.held a.search b in
    (x.0, ran p.clauses a.held a.search b m z.held z.search z.answer (run_law p.clauses a.held a.search x.1 b))
