-- Where a word is found among the names, and where not.
use Rattle.std.proofs.Common.{◌≡◌, ℕ, zero, suc, ◌+◌, ◌<◌, Bool, true, false, cond, List, [], ◌∷◌, length, get_or, Some, None, Option, refl, arith}
use Rattle.std.proofs.lemmas.Slice.Eq.{bytes_eq-Decides}
use Rattle.std.specs.Str.{bytes_eq}
use Rattle.names.specs.Tables.{find_from}

same : (v w : List ℕ) → v ≡ w → bytes_eq v w ≡ true
same v w e = (bytes_eq-Decides v w).1 e

other : (v w : List ℕ) → (v ≡ w → ⊥) → bytes_eq v w ≡ false
other v w f = go (bytes_eq v w) refl
  where
    go : (b : Bool) → bytes_eq v w ≡ b → b ≡ false
    go true e = absurd (f ((bytes_eq-Decides v w).0 e))
    go false e = refl

-- the first of the names that is w stands at k
pub find_from_lem : (n : ℕ) (vs : List (List ℕ)) (w : List ℕ) (k : ℕ) → k < length vs → get_or vs k [] ≡ w → ((j : ℕ) → j < k → get_or vs j [] ≡ w → ⊥) → find_from n vs w ≡ Some (n + k)
unfolding find_from
find_from_lem n [] w k l t h = absurd (omega arith)
find_from_lem n (v ∷ vs) w zero l t h = let z : n + 0 ≡ n = omega arith in rw (same v w t, z)
find_from_lem n (v ∷ vs) w (suc k) l t h =
    let z : n + suc k ≡ n + 1 + k = omega arith in
    rw (other v w (h 0 (omega arith)), z) (find_from_lem (n + 1) vs w k (omega arith) t (λ j m. h (suc j) (omega arith)))

pub find_none : (n : ℕ) (vs : List (List ℕ)) (w : List ℕ) → ((j : ℕ) → j < length vs → get_or vs j [] ≡ w → ⊥) → find_from n vs w ≡ None
unfolding find_from
find_none n [] w h = refl
find_none n (v ∷ vs) w h = rw (other v w (h 0 (omega arith))) (find_none (n + 1) vs w (λ j m. h (suc j) (omega arith)))

-- what a number says: it is that of a name that is w
pub record Stands (n : ℕ) (vs : List (List ℕ)) (w : List ℕ) (k : ℕ) : Type 0 where
  pub index : ℕ
  pub number : k ≡ n + index
  pub within : index < length vs
  pub is : get_or vs index [] ≡ w

pub some_found : (n : ℕ) (vs : List (List ℕ)) (w : List ℕ) (k : ℕ) → find_from n vs w ≡ Some k → Stands n vs w k
unfolding find_from
some_found n [] w k e = let z : ◌≡◌ {A = ℕ} 0 1 = cc in absurd (omega arith)
some_found n (v ∷ vs) w k e = go (some_found (n + 1) vs w k) (bytes_eq v w) refl e
  where
    go : (find_from (n + 1) vs w ≡ Some k → Stands (n + 1) vs w k) → (b : Bool) → bytes_eq v w ≡ b → ◌≡◌ {A = Option ℕ} (cond b (Some n) (find_from (n + 1) vs w)) (Some k) → Stands n (v ∷ vs) w k
    go ih true q e = let z : n ≡ k = cc in record { index = 0; number = omega arith; within = omega arith; is = (bytes_eq-Decides v w).0 q }
    go ih false q e =
        let r = ih e in
        let m = r.number in
        let l = r.within in
        record { index = suc r.index; number = omega arith; within = omega arith; is = r.is }
