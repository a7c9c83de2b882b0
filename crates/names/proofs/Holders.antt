-- The record of an atom, and the names in order of first use.
use Rattle.std.proofs.Common.{◌≡◌, ℕ, zero, suc, ◌+◌, ◌<◌, Bool, true, false, cond, eqb, List, [], ◌∷◌, ◌++◌, length, get_or, sym, refl, ap, ◌∙◌, ap₂, inl, inr, add-one, arith}
use Rattle.std.proofs.lemmas.List.{length_push, get_or_push, get_or_append_left}
use Rattle.std.proofs.lemmas.Bool.{cases_lt, eq-eqb, ne_eqb}
use Rattle.names.specs.Names.{spelled}
use Rattle.names.specs.Slots.{vacant, holder, names_to}
use Rattle.names.specs.declared.slot.NameSlot.{NameSlot}

-- ---- the record of an atom

-- where it stands
pub record Sits (xs : List NameSlot) (k : ℕ) : Type 0 where
  pub index : ℕ
  pub within : index < length xs
  pub is : get_or xs index vacant ≡ holder k xs

pub sits : (xs : List NameSlot) (k : ℕ) → 0 < k → (holder k xs).atom ≡ k → Sits xs k
unfolding holder
sits [] k l e = absurd (omega arith)
sits (x ∷ xs) k l e = go (sits xs k l) (eqb x.atom k) refl e
  where
    go : ((holder k xs).atom ≡ k → Sits xs k) → (b : Bool) → eqb x.atom k ≡ b → (cond b x (holder k xs)).atom ≡ k → Sits (x ∷ xs) k
    go ih true q e = record { index = 0; within = omega arith; is = rw q }
    go ih false q e = let r = ih e in let w = r.within in record { index = suc r.index; within = omega arith; is = rw q r.is }

-- one record more, with another atom or with this one
pub holder_other : (xs ys : List NameSlot) (x : NameSlot) (k : ℕ) → (x.atom ≡ k → ⊥) → holder k (xs ++ (x ∷ ys)) ≡ holder k (xs ++ ys)
unfolding holder
holder_other [] ys x k f = rw (ne_eqb x.atom k f)
holder_other (y ∷ xs) ys x k f = ap (cond (eqb y.atom k) y) (holder_other xs ys x k f)

pub holder_new : (xs ys : List NameSlot) (x : NameSlot) (k : ℕ) → x.atom ≡ k → ((j : ℕ) → j < length xs → (get_or xs j vacant).atom ≡ k → ⊥) → holder k (xs ++ (x ∷ ys)) ≡ x
unfolding holder
holder_new [] ys x k e f = rw (eq-eqb x.atom k e)
holder_new (y ∷ xs) ys x k e f = rw (ne_eqb y.atom k (f 0 (omega arith))) (holder_new xs ys x k e (λ j l. f (suc j) (omega arith)))

-- ---- the names of the first atoms

pub length_names : (n : ℕ) (xs : List NameSlot) → length (names_to n xs) ≡ n
unfolding names_to
length_names zero xs = refl
length_names (suc n) xs = omega (arith, length_push (names_to n xs) (spelled (holder (suc n) xs).name), length_names n xs)

pub get_or_names : (n : ℕ) (xs : List NameSlot) (k : ℕ) → k < n → get_or (names_to n xs) k [] ≡ spelled (holder (suc k) xs).name
unfolding names_to
get_or_names zero xs k l = absurd (omega arith)
get_or_names (suc n) xs k l =
    let h = length_names n xs in
    let ih = get_or_names n xs k in
    elim (cases_lt k n) [
      | inl b ↦ get_or_append_left (names_to n xs) (spelled (holder (suc n) xs).name ∷ []) [] k (omega arith) ∙ ih b
      | inr b ↦ let e : k ≡ n = omega arith in get_or_push (names_to n xs) (spelled (holder (suc n) xs).name) [] k (omega arith) ∙ ap (λ j. spelled (holder (suc j) xs).name) (sym e)
    ]

pub names_same : (n : ℕ) (xs ys : List NameSlot) → ((k : ℕ) → k < n → holder (suc k) ys ≡ holder (suc k) xs) → names_to n ys ≡ names_to n xs
unfolding names_to
names_same zero xs ys f = refl
names_same (suc n) xs ys f = ap₂ (λ vs x. vs ++ (spelled x.name ∷ [])) (names_same n xs ys (λ k l. f k (omega arith))) (f n (omega arith))

pub names_more : (n : ℕ) (xs ys : List NameSlot) (x : NameSlot) → ((k : ℕ) → k < n → holder (suc k) ys ≡ holder (suc k) xs) → holder (suc n) ys ≡ x
    → names_to (n + 1) ys ≡ names_to n xs ++ (spelled x.name ∷ [])
unfolding names_to
names_more n xs ys x f e = ap (λ k. names_to k ys) (add-one n) ∙ ap₂ (λ vs x. vs ++ (spelled x.name ∷ [])) (names_same n xs ys f) e

pub names_none : (n : ℕ) (xs : List NameSlot) → n ≡ 0 → names_to n xs ≡ []
unfolding names_to
names_none n xs e = ap (λ k. names_to k xs) e
