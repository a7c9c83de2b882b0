-- The number of a clause in base 4 tells its place in the order, and the clause.
use Rattle.std.proofs.Common.{◌≡◌, ℕ, zero, suc, ◌+◌, ◌-◌, ◌*◌, ◌^◌, ◌<◌, ◌≤◌, Bool, true, false, cond, not, ◌&&◌, ◌||◌, Ordering, Less, Equal, Greater, sym, refl, ap, ◌∙◌, ap₂, ⊎_elim, mul-le-mul_right, add-mul, pow-suc, arith}
use Rattle.std.specs.Cmp.{nat_cmp_is}
use Rattle.std.specs.Ordering.{nat_cmp, ordering_then, then_cmp, on}
use lib.Bits.{bit_or, bit_xor}
use lib.Count.{count_leading_zeros}
use Rattle.std.proofs.lemmas.Bool.{cases_eq, cases_order, cases_Bool}
use Rattle.clause.specs.Words.{at}
use Rattle.clause.specs.declared.words.Clause.{Clause}
use Rattle.clause.specs.Clauses.{Literals, Words, lits, has, top_to}
use Rattle.clause.specs.Order.{treats, rank, rank_to, Before, Alike, Decided, Compares, clause_cmp}
use Rattle.clause.proofs.Truths.{top_bound, apart_word}
use Rattle.clause.proofs.Bits.{at_or, at_xor, at_zero, at_none, same_words, Highest, highest_of, highest_none}

-- a treatment is 0 exactly where the atom is absent
pub treats_none : (c : Literals) (a : ℕ) → has c a ≡ false → treats c a ≡ 0
treats_none c a h = grind arith

pub treats_some : (c : Literals) (a : ℕ) → has c a ≡ true → 0 < treats c a
treats_some c a h = grind arith

pub treats_most : (c : Literals) (a : ℕ) → treats c a ≤ 2
treats_most c a = grind arith

pub rank_bound : (k : ℕ) (c : Literals) → rank_to k c < 4 ^ k
unfolding rank_to
rank_bound zero c = omega arith
rank_bound (suc k) c =
    let ih = rank_bound k c in
    let s = mul-le-mul_right (4 ^ k) (treats_most c (suc k)) in
    omega (arith, pow-suc 4 k)

-- a lower digit in front weighs more than all that follows
ahead : (d e m r s : ℕ) → d < e → r < m → d * m + r < e * m + s
ahead d e m r s l b =
    let h : d + 1 ≤ e = omega arith in
    omega (arith, mul-le-mul_right m h, add-mul d 1 m)

-- the order by atoms is the order of the numbers
rank_less : (k : ℕ) (c d : Literals) (p : ℕ) → 0 < p → p ≤ k → treats c p < treats d p → ((a : ℕ) → a ≤ k → p < a → treats c a ≡ treats d a) → rank_to k c < rank_to k d
unfolding rank_to
rank_less zero c d p z l t h = absurd (omega arith)
rank_less (suc k) c d p z l t h = ⊎_elim
    (λ e. let t' : treats c (suc k) < treats d (suc k) = rw e at t in
    ahead (treats c (suc k)) (treats d (suc k)) (4 ^ k) (rank_to k c) (rank_to k d) t' (rank_bound k c))
    (λ n. let ih = rank_less k c d p z (omega arith) t (λ a m. h a (omega arith)) in
    let q = h (suc k) (omega arith) (omega arith) in
    omega (arith, ap (λ (x : ℕ). x * 4 ^ k) q))
    (cases_eq p (suc k))

pub rank_before : (c d : Literals) → Before c d → rank c < rank d
rank_before c d b =
    let t = b.lower in
    rank_less 64 c d b.atom (⊎_elim (λ e. absurd (none b.atom e t)) (λ n. omega arith) (cases_eq b.atom 0)) b.within t b.alike
  where
    none : (a : ℕ) → a ≡ 0 → treats c a < treats d a → ⊥
    none a e t = let x = at_none c.pos a e in let y = at_none c.neg a e in let u = at_none d.pos a e in let w = at_none d.neg a e in grind arith

rank_same : (k : ℕ) (c d : Literals) → ((a : ℕ) → a ≤ k → treats c a ≡ treats d a) → rank_to k c ≡ rank_to k d
unfolding rank_to
rank_same zero c d h = refl
rank_same (suc k) c d h = ap₂ (λ (x y : ℕ). x * 4 ^ k + y) (h (suc k) (omega arith)) (rank_same k c d (λ a l. h a (omega arith)))

pub rank_alike : (c d : Literals) → Alike c d → rank c ≡ rank d
rank_alike c d h = rank_same 64 c d h

pub ranked : (c d : Literals) (o : Ordering) → Decided c d o → Compares (rank c) (rank d) o
ranked c d Less h = rank_before c d h
ranked c d Equal h = rank_alike c d h
ranked c d Greater h = rank_before d c h

-- and back: equal numbers, equal treatments
same_digits : (d e m r s : ℕ) → r < m → s < m → d * m + r ≡ e * m + s → (d ≡ e) × (r ≡ s)
same_digits d e m r s h k q = ⊎_elim
    (λ z. (z, omega (arith, ap (λ (x : ℕ). x * m) z)))
    (λ n. ⊎_elim (λ l. let x = ahead d e m r s l h in absurd (omega arith)) (λ l. let x = ahead e d m s r l k in absurd (omega arith)) n)
    (cases_order d e)

alike_to : (k : ℕ) (c d : Literals) → rank_to k c ≡ rank_to k d → (a : ℕ) → 0 < a → a ≤ k → treats c a ≡ treats d a
unfolding rank_to
alike_to zero c d e a z l = absurd (omega arith)
alike_to (suc k) c d e a z l =
    let q = same_digits (treats c (suc k)) (treats d (suc k)) (4 ^ k) (rank_to k c) (rank_to k d) (rank_bound k c) (rank_bound k d) e in
    let ih = alike_to k c d q.1 a z in
    ⊎_elim (λ i. let f = q.0 in rw i f) (λ n. ih (omega arith)) (cases_eq a (suc k))

-- in the order a lower highest atom comes first
pub rank_top : (k : ℕ) (c d : Literals) → rank_to k c ≤ rank_to k d → top_to k c ≤ top_to k d
unfolding rank_to top_to
rank_top zero c d l = omega arith
rank_top (suc k) c d l =
    ⊎_elim
    (λ t. let b = top_bound k c in grind arith)
    (λ t. let z = treats_none d (suc k) t in
    let b = rank_bound k d in
    ⊎_elim
    (λ u. let s = treats_some c (suc k) u in
    let x = mul-le-mul_right (4 ^ k) s in
    absurd (omega (arith, ap (λ (x : ℕ). x * 4 ^ k) z)))
    (λ u. let y = treats_none c (suc k) u in
    let ih = rank_top k c d (omega (arith, ap (λ (x : ℕ). x * 4 ^ k) z, ap (λ (x : ℕ). x * 4 ^ k) y)) in
    grind arith)
    (cases_Bool (has c (suc k))))
    (cases_Bool (has d (suc k)))

-- ---- the comparison of two clauses by their words

-- no atom in both signs
abbrev Clean : Literals → Type 0
Clean c = (a : ℕ) → at c.pos a && at c.neg a ≡ false

-- the word of the atoms that two clauses treat differently
abbrev pub differing : Literals → Literals → ℕ
differing c d = bit_or (bit_xor c.pos d.pos) (bit_xor c.neg d.neg)

module _ (c d : Literals) where
  at_differing : (a : ℕ) → at (differing c d) a ≡ cond (at c.pos a) (not (at d.pos a)) (at d.pos a) || cond (at c.neg a) (not (at d.neg a)) (at d.neg a)
  at_differing a =
      at_or (bit_xor c.pos d.pos) (bit_xor c.neg d.neg) a
      ∙ ap₂ (λ (x y : Bool). x || y) (at_xor c.pos d.pos a) (at_xor c.neg d.neg a)

  alike_at : (a : ℕ) → at (differing c d) a ≡ false → treats c a ≡ treats d a
  alike_at a f = parts (at c.pos a) (at c.neg a) (at d.pos a) (at d.neg a) (sym (at_differing a) ∙ f)
    where
      parts : (p n q m : Bool) → cond p (not q) q || cond n (not m) m ≡ false → ◌≡◌ {A = ℕ} (cond p 1 (cond n 2 0)) (cond q 1 (cond m 2 0))
      parts p n q m h = grind arith

  unlike_at : Clean c → Clean d → (a : ℕ) → at (differing c d) a ≡ true → treats c a ≡ treats d a → ⊥
  unlike_at x y a f e = parts (at c.pos a) (at c.neg a) (at d.pos a) (at d.neg a) (sym (at_differing a) ∙ f) (x a) (y a) e
    where
      parts : (p n q m : Bool) → cond p (not q) q || cond n (not m) m ≡ true → p && n ≡ false → q && m ≡ false → ◌≡◌ {A = ℕ} (cond p 1 (cond n 2 0)) (cond q 1 (cond m 2 0)) → ⊥
      parts p n q m h x y e = grind arith

  all_alike : differing c d ≡ 0 → Alike c d
  all_alike z a l = alike_at a (ap (λ (w : ℕ). at w a) z ∙ at_zero a)

  -- what the treatments of the highest differing atom say
  decided_at : Clean c → Clean d → Highest (differing c d) → (o : Ordering) → (p : ℕ) → 64 - count_leading_zeros 64 (differing c d) ≡ p → Compares (treats c p) (treats d p) o → Decided c d o
  decided_at x y h Less p e r = record {
    atom = p;
    within = omega (arith, h.is, h.within);
    lower = r;
    alike = λ a l m. alike_at a (h.above a (omega (arith, h.is)));
  }
  decided_at x y h Equal p e r = absurd (unlike_at x y p (ap (at (differing c d)) (sym e ∙ h.is) ∙ h.there) r)
  decided_at x y h Greater p e r = record {
    atom = p;
    within = omega (arith, h.is, h.within);
    lower = r;
    alike = λ a l m. sym (alike_at a (h.above a (omega (arith, h.is))));
  }

  decided_none : (o : Ordering) (p : ℕ) → p ≡ 0 → differing c d ≡ 0 → Compares (treats c p) (treats d p) o → Decided c d o
  decided_none Less p e z r = absurd (omega (arith, alike_at p (ap (λ (w : ℕ). at w p) z ∙ at_zero p)))
  decided_none Equal p e z r = all_alike z
  decided_none Greater p e z r = absurd (omega (arith, alike_at p (ap (λ (w : ℕ). at w p) z ∙ at_zero p)))

  pub decided : Clean c → Clean d → differing c d < 2 ^ 64 → (o : Ordering) → Compares (treats c (64 - count_leading_zeros 64 (differing c d))) (treats d (64 - count_leading_zeros 64 (differing c d))) o → Decided c d o
  decided x y f o r = ⊎_elim
      (λ z. decided_none o (64 - count_leading_zeros 64 (differing c d)) (ap (λ (w : ℕ). 64 - count_leading_zeros 64 w) z ∙ highest_none) z r)
      (λ n. decided_at x y (highest_of (differing c d) (omega arith) f) o (64 - count_leading_zeros 64 (differing c d)) refl r)
      (cases_eq (differing c d) 0)

-- equal numbers, equal clauses
pub alike_words : (c d : Literals) → Clean c → Clean d → c.pos < 2 ^ 64 → d.pos < 2 ^ 64 → c.neg < 2 ^ 64 → d.neg < 2 ^ 64 → rank c ≡ rank d → (c.pos ≡ d.pos) × (c.neg ≡ d.neg)
alike_words c d x y f g h k e =
    (same_words c.pos d.pos f g (λ a l. (both a l).0), same_words c.neg d.neg h k (λ a l. (both a l).1))
  where
    parts : (p n q m : Bool) → p && n ≡ false → q && m ≡ false → ◌≡◌ {A = ℕ} (cond p 1 (cond n 2 0)) (cond q 1 (cond m 2 0)) → (p ≡ q) × (n ≡ m)
    parts p n q m x y e = (grind arith, grind arith)

    both : (a : ℕ) → a ≤ 64 → (at c.pos a ≡ at d.pos a) × (at c.neg a ≡ at d.neg a)
    both a l = ⊎_elim
        (λ z. (at_none c.pos a z ∙ sym (at_none d.pos a z), at_none c.neg a z ∙ sym (at_none d.neg a z)))
        (λ n. parts _ _ _ _ (x a) (y a) (alike_to 64 c d e a (omega arith) l))
        (cases_eq a 0)

-- a lower number comes before, by atoms
record Lower (k : ℕ) (c d : Literals) : Type 0 where
  atom : ℕ
  within : atom ≤ k
  lower : treats c atom < treats d atom
  alike : (a : ℕ) → a ≤ k → atom < a → treats c a ≡ treats d a

lower_to : (k : ℕ) (c d : Literals) → rank_to k c < rank_to k d → Lower k c d
unfolding rank_to
lower_to zero c d l = absurd (omega arith)
lower_to (suc k) c d l =
    let ih = lower_to k c d in
    let b = rank_bound k d in
    ⊎_elim
    (λ e. let r = ih (omega (arith, ap (λ (x : ℕ). x * 4 ^ k) e)) in
    let w = r.within in
    record { atom = r.atom; within = omega arith; lower = r.lower; alike = λ a m n. ⊎_elim (λ z. rw z e) (λ z. r.alike a (omega arith) n) (cases_eq a (suc k)) })
    (λ o. ⊎_elim
    (λ s. record { atom = suc k; within = omega arith; lower = s; alike = λ a m n. absurd (omega arith) })
    (λ s. let x = ahead (treats d (suc k)) (treats c (suc k)) (4 ^ k) (rank_to k d) (rank_to k c) s b in absurd (omega arith))
    o)
    (cases_order (treats c (suc k)) (treats d (suc k)))

pub before_rank : (c d : Literals) → rank c < rank d → Before c d
before_rank c d l = let r = lower_to 64 c d l in record { atom = r.atom; within = r.within; lower = r.lower; alike = r.alike }

-- the comparison's answer as one function
abbrev later : Clause → Clause → Ordering
later = then_cmp (on (λ c. c.positive) nat_cmp) (on (λ c. c.negative) nat_cmp)

pub valued : (c d : Clause) → Words c → Words d → (o : Ordering) → Compares (rank (lits c)) (rank (lits d)) o → o ≡ clause_cmp c d
valued c d f g Less h = ap (λ k. ordering_then k (later c d)) (nat_cmp_is (rank (lits c)) (rank (lits d)) Less h)
valued c d f g Greater h = ap (λ k. ordering_then k (later c d)) (nat_cmp_is (rank (lits c)) (rank (lits d)) Greater h)
valued c d f g Equal h =
    let e = alike_words (lits c) (lits d) (apart_word _ _ c.apart) (apart_word _ _ d.apart) f.0 g.0 f.1 g.1 h in
    let n = nat_cmp_is c.negative d.negative Equal e.1 in
    let p = ap (λ k. ordering_then k (nat_cmp c.negative d.negative)) (nat_cmp_is c.positive d.positive Equal e.0) in
    (n ∙ p) ∙ ap (λ k. ordering_then k (later c d)) (nat_cmp_is (rank (lits c)) (rank (lits d)) Equal h)
