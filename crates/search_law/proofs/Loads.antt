-- A load keeps the invariant.
use Rattle.std.proofs.Common.{◌≡◌, ℕ, ◌+◌, ◌-◌, ◌≤◌, Bool, true, false, cond, eqb, ltb, List, [], ◌∷◌, ◌++◌, length, Some, Ok, Err, Option, Result, sym, refl, ap, ◌∙◌, subst, arith}
use Rattle.std.proofs.lemmas.List.{append-nil, append_assoc}
use Rattle.std.proofs.lemmas.Bool.{ltb-true, ltb-false}
use Rattle.std.specs.List.{AllByRecursion}
use Rattle.clause.specs.declared.words.Clause.{Clause}
use Rattle.clause.specs.Clauses.{lits, top, same}
use Rattle.clause.specs.Refusals.{Told, refused}
use Rattle.dimacs.specs.Walk.{Parsed, parse}
use Rattle.store.specs.declared.entry.Entry.{Entry}
use Rattle.store.specs.Held.{Held, size, found, find_from}
use Rattle.session.specs.declared.search.Search.{Search}
use Rattle.session.specs.declared.search.Phase.{Phase}
use Rattle.session.specs.declared.search.Phase.TheVariants.{Unopened, Undecided, Satisfied, Refuted}
use Rattle.session.specs.Steps.{After}
use Rattle.session.specs.Calls.{add_clause, loads, load_all, load_parsed, load_in}
use Rattle.search_law.proofs.Accepts.{Takes, Accepts, accept_fine}
use Rattle.search_law.proofs.Steps.{still, onward_on}
use Rattle.search_law.proofs.Texts.{clause_law}
use Rattle.search_law.specs.Law.{Inv, Onward, Ordinary, Says, Loading, Unfit, Loaded, LoadLaw}

-- a clause keeps its number
find_more : (n : ℕ) (es more : List Entry) (c : Clause) (k : ℕ) → find_from n es c ≡ Some k → find_from n (es ++ more) c ≡ Some k
unfolding find_from
find_more n [] more c k e = let z : ◌≡◌ {A = ℕ} 0 1 = cc in absurd (omega arith)
find_more n (x ∷ es) more c k e = go (same x.clause c) (find_more (n + 1) es more c k) e
  where
    go : (b : Bool) → (find_from (n + 1) es c ≡ Some k → find_from (n + 1) (es ++ more) c ≡ Some k)
        → ◌≡◌ {A = Option ℕ} (cond b (Some n) (find_from (n + 1) es c)) (Some k) → ◌≡◌ {A = Option ℕ} (cond b (Some n) (find_from (n + 1) (es ++ more) c)) (Some k)
    go true ih e = e
    go false ih e = ih e

pub found_on : (h : Held) (s : Search) (h' : Held) (s' : Search) (c : Clause) (k : ℕ) → Onward h s h' s' → found h c ≡ Some k → found h' c ≡ Some k
found_on h s h' s' c k w e = ap (λ (es : List Entry). find_from 1 es c) w.grown ∙ find_more 1 h.entries w.more c k e

-- the clauses c and cs, after c was taken
both_taken : (acc : List Clause) (h : Held) (s : Search) (c : Clause) (cs : List Clause) (k : ℕ) (h₁ : Held) (s₁ : Search) (h₂ : Held) (s₂ : Search)
    → Takes acc h s c k h₁ s₁ → Loading (acc ++ (c ∷ [])) h₁ s₁ cs h₂ s₂ → Loading acc h s (c ∷ cs) h₂ s₂
both_taken acc h s c cs k h₁ s₁ h₂ s₂ t l = record {
  keeps = subst (λ (x : List Clause). Inv x h₂ s₂) (append_assoc acc (c ∷ []) cs) l.keeps;
  onward = onward_on h s h₁ s₁ h₂ s₂ t.onward l.onward;
  taken = ((k, found_on h₁ s₁ h₂ s₂ c k l.onward t.numbered), l.taken);
}

abbrev AllLoaded : ℕ → List Clause → Held → Search → List Clause → After (Result ℕ Told) → Type 0
AllLoaded m acc h s cs a = (a.answer ≡ Ok m) × Loading acc h s cs a.held a.search

-- with a place for each none of them is refused
loads_fine : (m : ℕ) (cs : List Clause) (acc : List Clause) (h : Held) (s : Search) → Inv acc h s → AllByRecursion (λ (c : Clause). Ordinary s.atoms (lits c)) cs → size h + length cs ≤ h.places
    → AllLoaded m acc h s cs (loads m h s cs)
loads_fine m [] acc h s I o l = (refl, record { keeps = subst (λ (x : List Clause). Inv x h s) (sym (append-nil acc)) I; onward = still h s s refl; taken = tt })
loads_fine m (c ∷ cs) acc h s I o l =
    let a = add_clause h s c (eqb (top (lits c)) 0) in
    go a.held a.search a.answer (accept_fine acc h s I c o.0) (loads_fine m cs (acc ++ (c ∷ [])))
  where
    go : (h₁ : Held) (s₁ : Search) (r : Result ℕ Told) → Accepts acc h s c h₁ s₁ r
        → ((h : Held) (s : Search) → Inv (acc ++ (c ∷ [])) h s → AllByRecursion (λ (c : Clause). Ordinary s.atoms (lits c)) cs → size h + length cs ≤ h.places
        → AllLoaded m (acc ++ (c ∷ [])) h s cs (loads m h s cs))
        → AllLoaded m acc h s (c ∷ cs) (loads m h₁ s₁ cs)
    go h₁ s₁ (Ok k) t ih =
        let x = t.onward.places in
        let y = t.one in
        let q = subst (λ (n : ℕ). AllByRecursion (λ (c : Clause). Ordinary n (lits c)) cs) (sym t.onward.atoms) o.1 in
        let r = ih h₁ s₁ t.keeps q (omega arith) in
        let b = loads m h₁ s₁ cs in
        (r.0, both_taken acc h s c cs k h₁ s₁ b.held b.search t r.1)
    go h₁ s₁ (Err e) t ih = let x = t.2 in absurd (omega arith)

abbrev LoadedOf : List Clause → Held → Search → List ℕ → After (Result ℕ Told) → Type 0
LoadedOf acc h s bs a = Loaded acc h s bs a.held a.search a.answer

module _ (acc : List Clause) (h : Held) (s : Search) (I : Inv acc h s) (bs : List ℕ) where
  module _ (p : Parsed) (e : parse s.atoms bs ≡ Ok p) where
    whole : (a : After (Result ℕ Told)) → AllLoaded (length p.clauses) acc h s p.clauses a → LoadedOf acc h s bs a
    whole a (q, l) = subst (Loaded acc h s bs a.held a.search) (sym q) (p, e, refl, l)

    all_fine : (b : Bool) → ltb (h.places - size h) (length p.clauses) ≡ b → LoadedOf acc h s bs (load_all h s p.clauses b)
    all_fine true q = (refl, refl, subst (λ (r : Result Parsed Told). Unfit h r (refused 10 0)) (sym e) (refl, ltb-true (h.places - size h) (length p.clauses) q))
    all_fine false q =
        let x = ltb-false (h.places - size h) (length p.clauses) q in
        let y = I.room in
        whole (loads (length p.clauses) h s p.clauses)
        (loads_fine (length p.clauses) p.clauses acc h s I (clause_law s.atoms bs p e) (omega arith))

  parsed_fine : (r : Result Parsed Told) → parse s.atoms bs ≡ r → LoadedOf acc h s bs (load_parsed h s r)
  parsed_fine (Ok p) e = all_fine p e (ltb (h.places - size h) (length p.clauses)) refl
  parsed_fine (Err x) e = (refl, refl, subst (λ (r : Result Parsed Told). Unfit h r x) (sym e) refl)

  opened : (ph : Phase) → Says acc h s.valuation ph → LoadedOf acc h s bs (load_in h s bs ph)
  opened (Unopened e) x = absurd x
  opened Undecided x = parsed_fine (parse s.atoms bs) refl
  opened Satisfied x = parsed_fine (parse s.atoms bs) refl
  opened (Refuted i j) x = parsed_fine (parse s.atoms bs) refl

pub load_law : LoadLaw
load_law acc h s I bs = opened acc h s I bs s.phase I.says
