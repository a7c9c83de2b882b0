-- Where a clause is found, and where not.
use Rattle.std.proofs.Common.{◌≡◌, ℕ, zero, suc, ◌+◌, ◌<◌, Bool, true, false, cond, List, [], ◌∷◌, length, Some, None, Option, refl, arith}
use Rattle.clause.specs.declared.words.Clause.{Clause}
use Rattle.clause.specs.Clauses.{same}
use Rattle.store.specs.declared.entry.Entry.{Entry}
use Rattle.store.specs.Held.{clause_at, find_from}

-- the first entry with the clause is at index k
pub find_from_lem : (n : ℕ) (es : List Entry) (c : Clause) (k : ℕ) → k < length es → same (clause_at es k) c ≡ true
    → ((j : ℕ) → j < k → same (clause_at es j) c ≡ false) → find_from n es c ≡ Some (n + k)
unfolding find_from
find_from_lem n [] c k l t h = absurd (omega arith)
find_from_lem n (e ∷ es) c zero l t h = let z : n + 0 ≡ n = omega arith in rw (t, z)
find_from_lem n (e ∷ es) c (suc k) l t h =
    let z : n + suc k ≡ n + 1 + k = omega arith in
    rw (h 0 (omega arith), z) (find_from_lem (n + 1) es c k (omega arith) t (λ j m. h (suc j) (omega arith)))

pub find_none : (n : ℕ) (es : List Entry) (c : Clause) → ((j : ℕ) → j < length es → same (clause_at es j) c ≡ false) → find_from n es c ≡ None
unfolding find_from
find_none n [] c h = refl
find_none n (e ∷ es) c h = rw (h 0 (omega arith)) (find_none (n + 1) es c (λ j m. h (suc j) (omega arith)))

-- what an answer of nothing says
pub none_found : (n : ℕ) (es : List Entry) (c : Clause) → find_from n es c ≡ None → (j : ℕ) → j < length es → same (clause_at es j) c ≡ false
unfolding find_from
none_found n [] c e j l = absurd (omega arith)
none_found n (x ∷ es) c e j l = go (none_found (n + 1) es c) (same x.clause c) refl e j l
  where
    go : (find_from (n + 1) es c ≡ None → (j : ℕ) → j < length es → same (clause_at es j) c ≡ false)
        → (b : Bool) → same x.clause c ≡ b → ◌≡◌ {A = Option ℕ} (cond b (Some n) (find_from (n + 1) es c)) None → (j : ℕ) → j < length (x ∷ es) → same (clause_at (x ∷ es) j) c ≡ false
    go ih true q e j l = let z : ◌≡◌ {A = ℕ} 0 1 = cc in absurd (omega arith)
    go ih false q e zero l = q
    go ih false q e (suc j) l = ih e j (omega arith)

-- what a number says: it is that of an entry with the clause
pub record Stands (n : ℕ) (es : List Entry) (c : Clause) (k : ℕ) : Type 0 where
  pub index : ℕ
  pub number : k ≡ n + index
  pub within : index < length es
  pub is : same (clause_at es index) c ≡ true

pub some_found : (n : ℕ) (es : List Entry) (c : Clause) (k : ℕ) → find_from n es c ≡ Some k → Stands n es c k
unfolding find_from
some_found n [] c k e = let z : ◌≡◌ {A = ℕ} 0 1 = cc in absurd (omega arith)
some_found n (x ∷ es) c k e = go (some_found (n + 1) es c k) (same x.clause c) refl e
  where
    go : (find_from (n + 1) es c ≡ Some k → Stands (n + 1) es c k) → (b : Bool) → same x.clause c ≡ b → ◌≡◌ {A = Option ℕ} (cond b (Some n) (find_from (n + 1) es c)) (Some k) → Stands n (x ∷ es) c k
    go ih true q e = let z : n ≡ k = cc in record { index = 0; number = omega arith; within = omega arith; is = q }
    go ih false q e =
        let r = ih e in
        let m = r.number in
        let w = r.within in
        record { index = suc r.index; number = omega arith; within = omega arith; is = r.is }
