-- The number of a name in base 256 tells its place in the order, and the name.
use Rattle.std.proofs.Common.{◌≡◌, ℕ, zero, suc, ◌+◌, ◌*◌, ◌^◌, ◌<◌, ◌≤◌, true, ◌⊎◌, List, [], ◌∷◌, length, get_or, take, Ordering, Less, Equal, Greater, sym, refl, ap, ap₂, inl, inr, mul-le-mul_right, arith}
use native.Mathlib.Nat.{one-le-pow}
use Rattle.std.proofs.lemmas.Bool.{cases_order}
use Rattle.clause.specs.Order.{Compares}
use Rattle.names.specs.Bytes.{is_name, Before, ByBytes, worth, rank, OrderLaw}
use Rattle.names.specs.Keyed.{ahead, worth_bound}
use Rattle.names.proofs.Spellings.{Digits, named}

-- ---- the order by bytes, from the first byte on

shorter : (y : ℕ) (ys : List ℕ) → Before [] (y ∷ ys)
shorter y ys = record { place = 0; alike = refl; within = omega arith; less = inl refl }

lesser : (x y : ℕ) (xs ys : List ℕ) → x < y → Before (x ∷ xs) (y ∷ ys)
lesser x y xs ys l = record { place = 0; alike = refl; within = omega arith; less = inr (omega arith, l) }

further : (x y : ℕ) (xs ys : List ℕ) → x ≡ y → Before xs ys → Before (x ∷ xs) (y ∷ ys)
further x y xs ys e b =
    let w = b.within in
    record {
      place = suc b.place;
      alike = ap₂ (λ c cs. c ∷ cs) e b.alike;
      within = omega arith;
      less = elim b.less [ inl p ↦ inl (omega arith) | inr p ↦ inr (omega (arith, p.0), p.1) ];
    }

-- of two words one comes first, or they are the same
ordered : (v w : List ℕ) → (v ≡ w) ⊎ (Before v w ⊎ Before w v)
ordered [] [] = inl refl
ordered [] (y ∷ ys) = inr (inl (shorter y ys))
ordered (x ∷ xs) [] = inr (inr (shorter x xs))
ordered (x ∷ xs) (y ∷ ys) = elim (cases_order x y) [
  | inl e ↦ elim (ordered xs ys) [
    | inl f ↦ inl (ap₂ (λ a b. a ∷ b) e f)
    | inr f ↦ elim f [ inl f ↦ inr (inl (further x y xs ys e f)) | inr f ↦ inr (inr (further y x ys xs (sym e) f)) ]
  ]
  | inr l ↦ elim l [ inl l ↦ inr (inl (lesser x y xs ys l)) | inr l ↦ inr (inr (lesser y x ys xs l)) ]
]

-- ---- the number of a word

later : (b : ℕ) (bs : List ℕ) → Digits (b ∷ bs) → Digits bs
later b bs d k l = d (suc k) (omega arith)

-- a name's first digit counts
worth_some : (k b : ℕ) (bs : List ℕ) → 0 < b → 0 < worth (suc k) (b ∷ bs)
unfolding worth
worth_some k b bs l = let p : 1 ≤ 256 ^ k = one-le-pow k 256 (omega arith) in omega (arith, mul-le-mul_right (256 ^ k) l)

worth_before : (k : ℕ) (v w : List ℕ) → Digits v → Digits w → length v ≤ k → length w ≤ k → Before v w → worth k v < worth k w
unfolding worth
worth_before k v [] dv dw lv lw b = absurd (omega (arith, b.within))
worth_before zero v (y ∷ ys) dv dw lv lw b = absurd (omega arith)
worth_before (suc k) [] (y ∷ ys) dv dw lv lw b = worth_some k y ys (dw 0 (omega arith)).0
worth_before (suc k) (x ∷ xs) (y ∷ ys) dv dw lv lw b =
    go (worth_before k xs ys (later x xs dv) (later y ys dw) (omega arith) (omega arith)) b.place b.alike b.within b.less
  where
    go : (Before xs ys → worth k xs < worth k ys) → (p : ℕ) → take p (x ∷ xs) ≡ take p (y ∷ ys) → p < length (y ∷ ys)
        → (length (x ∷ xs) ≡ p) ⊎ ((p < length (x ∷ xs)) × (get_or (x ∷ xs) p 0 < get_or (y ∷ ys) p 0)) → x * 256 ^ k + worth k xs < y * 256 ^ k + worth k ys
    go ih zero a l (inl e) = absurd (omega arith)
    go ih zero a l (inr q) = ahead x y (256 ^ k) (worth k xs) (worth k ys) q.1 (worth_bound k xs (λ j h. (later x xs dv j h).1))
    go ih (suc p) a l q =
        let e : x ≡ y = cc in
        let f : take p xs ≡ take p ys = cc in
        let r = ih (record { place = p; alike = f; within = omega arith; less = elim q [ inl r ↦ inl (omega arith) | inr r ↦ inr (omega (arith, r.0), r.1) ] }) in
        omega (arith, ap (λ z. z * 256 ^ k) e)

pub rank_before : (v w : List ℕ) → is_name v ≡ true → is_name w ≡ true → Before v w → rank v < rank w
rank_before v w e f b = let m = named v e in let n = named w f in worth_before 16 v w m.digits n.digits m.short n.short b

pub order_law : OrderLaw
order_law v w e f = (rank_before v w e f, back (ordered v w), same (ordered v w))
  where
    back : (v ≡ w) ⊎ (Before v w ⊎ Before w v) → rank v < rank w → Before v w
    back (inl q) l = absurd (omega (arith, ap rank q))
    back (inr (inl b)) l = b
    back (inr (inr b)) l = absurd (omega (arith, rank_before w v f e b))

    same : (v ≡ w) ⊎ (Before v w ⊎ Before w v) → rank v ≡ rank w → v ≡ w
    same (inl q) l = q
    same (inr (inl b)) l = absurd (omega (arith, rank_before v w e f b))
    same (inr (inr b)) l = absurd (omega (arith, rank_before w v f e b))

-- what a comparison of the numbers of two names answers is their order by bytes
pub by_ranks : (v w : List ℕ) (r : Ordering) → is_name v ≡ true → is_name w ≡ true → Compares (rank v) (rank w) r → ByBytes v w r
by_ranks v w Less e f h = (order_law v w e f).1 h
by_ranks v w Equal e f h = (order_law v w e f).2 h
by_ranks v w Greater e f h = (order_law w v f e).1 h
