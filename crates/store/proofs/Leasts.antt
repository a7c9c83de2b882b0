-- Which false clause is the first in clause order.
use Rattle.std.proofs.Common.{◌≡◌, ℕ, zero, suc, ◌+◌, ◌<◌, ◌≤◌, true, false, ltb, List, [], ◌∷◌, length, Some, None, Option, refl, ap, ⊎_elim, arith}
use Rattle.std.proofs.lemmas.Bool.{both_ways, cases_eq, cond_both, ltb-true, ltb-false}
use Rattle.clause.specs.declared.words.Clause.{Clause}
use Rattle.clause.specs.Clauses.{lits, makes}
use Rattle.clause.specs.Order.{rank}
use Rattle.store.specs.declared.entry.Entry.{Entry}
use Rattle.store.specs.Held.{Pick, clause_at, least_from, earlier, number_of}

abbrev pub rank_at : List Entry → ℕ → ℕ
rank_at es j = rank (lits (clause_at es j))

abbrev pub FalseAt : List Entry → ℕ → ℕ → Type 0
FalseAt es v j = makes v (lits (clause_at es j)) ≡ false

-- the pick is a false entry that no other false entry comes before
pub record First (n : ℕ) (es : List Entry) (v : ℕ) (p : Pick) : Type 0 where
  pub index : ℕ
  pub number : p.number ≡ n + index
  pub within : index < length es
  pub is : p.clause ≡ clause_at es index
  pub untrue : FalseAt es v index
  pub least : (j : ℕ) → j < length es → FalseAt es v j → rank_at es index ≤ rank_at es j

abbrev pub Law : ℕ → List Entry → ℕ → Option Pick → Type 0
Law n es v None = (j : ℕ) → j < length es → makes v (lits (clause_at es j)) ≡ true
Law n es v (Some p) = First n es v p

-- what holds of the first and of each other holds of each
each : (P : Clause → Type 0) (e : Entry) (es : List Entry) → P e.clause → ((j : ℕ) → j < length es → P (clause_at es j)) → (j : ℕ) → j < length (e ∷ es) → P (clause_at (e ∷ es) j)
each P e es h hs zero l = h
each P e es h hs (suc j) l = hs j (omega arith)

module _ (n : ℕ) (e : Entry) (es : List Entry) (v : ℕ) where
  later : (p : Pick) → (makes v (lits e.clause) ≡ false → rank (lits p.clause) ≤ rank (lits e.clause)) → First (n + 1) es v p → First n (e ∷ es) v p
  later p f r =
      let m = r.number in
      let w = r.within in
      let q = ap (λ (c : Clause). rank (lits c)) r.is in
      record {
        index = suc r.index;
        number = omega arith;
        within = omega arith;
        is = r.is;
        untrue = r.untrue;
        least = each (λ c. makes v (lits c) ≡ false → rank_at es r.index ≤ rank (lits c)) e es (λ t. let x = f t in omega arith) r.least;
      }

  skip : (o : Option Pick) → makes v (lits e.clause) ≡ true → Law (n + 1) es v o → Law n (e ∷ es) v o
  skip None t h = each (λ c. makes v (lits c) ≡ true) e es t h
  skip (Some p) t h = later p (λ f. absurd (both_ways _ f t)) h

  here : makes v (lits e.clause) ≡ false → ((j : ℕ) → j < length es → FalseAt es v j → rank (lits e.clause) ≤ rank_at es j) → First n (e ∷ es) v (record { number = n; clause = e.clause })
  here f h = record {
    index = 0;
    number = omega arith;
    within = omega arith;
    is = refl;
    untrue = f;
    least = each (λ c. makes v (lits c) ≡ false → rank (lits e.clause) ≤ rank (lits c)) e es (λ _. omega arith) h;
  }

  choose : (o : Option Pick) → makes v (lits e.clause) ≡ false → Law (n + 1) es v o → First n (e ∷ es) v (earlier (record { number = n; clause = e.clause }) o)
  choose None f h = here f (λ j l g. absurd (both_ways _ g (h j l)))
  choose (Some p) f h =
      cond_both (ltb (rank (lits p.clause)) (rank (lits e.clause))) p (record { number = n; clause = e.clause }) (First n (e ∷ es) v)
      (λ t. let x = ltb-true (rank (lits p.clause)) (rank (lits e.clause)) t in later p (λ _. omega arith) h)
      (λ t. let x = ltb-false (rank (lits p.clause)) (rank (lits e.clause)) t in
      let q = ap (λ (c : Clause). rank (lits c)) h.is in
      here f (λ j l g. let y = h.least j l g in omega arith))

pub least_law : (n : ℕ) (es : List Entry) (v : ℕ) → Law n es v (least_from n es v)
unfolding least_from
least_law n [] v = λ j l. absurd (omega arith)
least_law n (e ∷ es) v =
    let ih = least_law (n + 1) es v in
    cond_both (makes v (lits e.clause)) (least_from (n + 1) es v) (Some (earlier (record { number = n; clause = e.clause }) (least_from (n + 1) es v))) (Law n (e ∷ es) v)
    (λ t. skip n e es v (least_from (n + 1) es v) t ih)
    (λ f. choose n e es v (least_from (n + 1) es v) f ih)

-- an index whose entry is false and comes before every other false one is the answer
pub least_is : (es : List Entry) (v k : ℕ) → k < length es → FalseAt es v k
    → ((j : ℕ) → j < length es → (j ≡ k → ⊥) → FalseAt es v j → rank_at es k < rank_at es j) → number_of (least_from 1 es v) ≡ Some (1 + k)
least_is es v k l f h = go (least_from 1 es v) (least_law 1 es v)
  where
    go : (o : Option Pick) → Law 1 es v o → number_of o ≡ Some (1 + k)
    go None w = absurd (both_ways _ f (w k l))
    go (Some p) w =
        let i = w.index in
        let m = w.number in
        let same : i ≡ k = ⊎_elim (λ z. z) (λ n. let x = h i w.within n w.untrue in let y = w.least k l f in absurd (omega arith)) (cases_eq i k) in
        ap (λ (x : ℕ). Some x) (omega arith)

pub least_none : (es : List Entry) (v : ℕ) → ((j : ℕ) → j < length es → makes v (lits (clause_at es j)) ≡ true) → number_of (least_from 1 es v) ≡ None
least_none es v h = go (least_from 1 es v) (least_law 1 es v)
  where
    go : (o : Option Pick) → Law 1 es v o → number_of o ≡ None
    go None w = refl
    go (Some p) w = absurd (both_ways _ w.untrue (h w.index w.within))
