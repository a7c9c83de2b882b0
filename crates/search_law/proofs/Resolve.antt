-- What joining a reason and a false clause gives.
use Rattle.std.proofs.Common.{◌≡◌, ℕ, ◌^◌, ◌<◌, ◌≤◌, Bool, true, false, not, ◌&&◌, ◌||◌, T, eqb, Some, sym, refl, ◌∙◌, ⊎_elim, arith, lit<, eqb→eq}
use lib.Bits.{bit_and, and_lt, or_lt, xor_lt, and_le_l}
use Rattle.std.proofs.lemmas.Bool.{cases_eq, cases_lt, or_left, or_right, or_from, both_ways, eq-eqb, ne_eqb}
use Rattle.clause.specs.declared.words.Clause.{Clause}
use Rattle.clause.specs.Words.{at, one, without}
use Rattle.clause.specs.Clauses.{Literals, lits, makes, top, lit, has, joined, clause_if, clause_of}
use Rattle.clause.proofs.Bits.{at_and, at_zero, same_words}
use Rattle.clause.proofs.Truths.{makes_find, makes_some, makes_none, top_has, top_bound, above_top, joined_pos, joined_neg}

-- away from p the joined clause has the literals of both
join_lit : (rp rn cp cn v e dp dn : Bool) → dp ≡ (rp && not e) || cp → dn ≡ rn || (cn && not e) → e ≡ false → (dp && v) || (dn && not v) ≡ ((rp && v) || (rn && not v)) || ((cp && v) || (cn && not v))
join_lit rp rn cp cn v e dp dn h k f = grind arith

lit_join : (v : ℕ) (r c : Literals) (p a : ℕ) → (a ≡ p → ⊥) → lit v (joined r c p) a ≡ lit v r a || lit v c a
lit_join v r c p a n = join_lit (at r.pos a) (at r.neg a) (at c.pos a) (at c.neg a) (at v a) (eqb a p) _ _ (joined_pos r c p a) (joined_neg r c p a) (ne_eqb a p n)

has_join : (r c : Literals) (p a : ℕ) → has r a ≡ false → has c a ≡ false → has (joined r c p) a ≡ false
has_join r c p a h k = let x = joined_pos r c p a in let y = joined_neg r c p a in grind arith

-- at p it has none
join_free : (r c : Literals) (p : ℕ) → at r.neg p ≡ false → at c.pos p ≡ false → has (joined r c p) p ≡ false
join_free r c p x y = let d = joined_pos r c p p in let e = joined_neg r c p p in let f = eq-eqb p p refl in grind arith

apart : (v rp rn cp cn : Bool) → rn ≡ false → cp ≡ false → (rp && v) || (rn && not v) ≡ true → (cp && v) || (cn && not v) ≡ true → ⊥
apart v rp rn cp cn x y h k = grind arith

-- what makes both true makes the joined clause true
pub join_sound : (v : ℕ) (r c : Literals) (p : ℕ) → at r.neg p ≡ false → at c.pos p ≡ false → makes v r ≡ true → makes v c ≡ true → makes v (joined r c p) ≡ true
join_sound v r c p x y mr mc =
    let f = makes_find 64 v r mr in
    let g = makes_find 64 v c mc in
    ⊎_elim
    (λ e. ⊎_elim
    (λ e'. absurd (apart (at v p) (at r.pos p) (at r.neg p) (at c.pos p) (at c.neg p) x y (rw e at f.2) (rw e' at g.2)))
    (λ n. makes_some 64 v (joined r c p) g.0 g.1 (lit_join v r c p g.0 n ∙ or_right _ _ g.2))
    (cases_eq g.0 p))
    (λ n. makes_some 64 v (joined r c p) f.0 f.1 (lit_join v r c p f.0 n ∙ or_left _ _ f.2))
    (cases_eq f.0 p)

-- what a derivation starts from: r is a reason of p, c a false clause with the literal not p, and p is the highest atom of both
pub record Pair (v p : ℕ) (r c : Literals) : Type 0 where
  pub some : 0 < p
  pub high_r : top r ≡ p
  pub high_c : top c ≡ p
  pub minus_r : at r.neg p ≡ false
  pub plus_c : at c.pos p ≡ false
  pub rest : (a : ℕ) → a < p → lit v r a ≡ false
  pub untrue : makes v c ≡ false

pub no_lit : (v : ℕ) (d : Literals) (a : ℕ) → has d a ≡ false → lit v d a ≡ false
no_lit v d a h = grind arith

clean : (v p n : Bool) → (p && v) || (n && not v) ≡ false → p && n ≡ false
clean v p n h = grind arith

module _ (v p : ℕ) (r c : Literals) (h : Pair v p r c) where
  join_above : (a : ℕ) → a ≤ 64 → p ≤ a → has (joined r c p) a ≡ false
  join_above a l m =
      let e = h.high_r in
      let f = h.high_c in
      ⊎_elim
      (λ z. rw z (join_free r c p h.minus_r h.plus_c))
      (λ z. has_join r c p a (above_top r a l (omega arith)) (above_top c a l (omega arith)))
      (cases_eq a p)

  -- the joined clause is false
  pub join_false : (a : ℕ) → a ≤ 64 → lit v (joined r c p) a ≡ false
  join_false a l =
      ⊎_elim
      (λ z. lit_join v r c p a (omega arith) ∙ or_from (lit v r a) (lit v c a) (h.rest a z) (makes_none 64 v c h.untrue a l))
      (λ z. no_lit v (joined r c p) a (join_above a l z))
      (cases_lt a p)

  -- its highest atom is below p
  pub join_lower : top (joined r c p) < p
  join_lower =
      let some = h.some in
      let d = joined r c p in
      ⊎_elim (λ z. z) (λ z. absurd (both_ways _ (join_above (top d) (top_bound 64 d) z) (top_has 64 d (omega arith)))) (cases_lt (top d) p)

  -- no atom stands in it in both signs
  pub join_apart : (joined r c p).pos < 2 ^ 64 → (joined r c p).neg < 2 ^ 64 → bit_and (joined r c p).pos (joined r c p).neg ≡ 0
  join_apart f g =
      let d = joined r c p in
      same_words (bit_and d.pos d.neg) 0 (and_lt 64 d.pos d.neg f g) (lit< tt)
      (λ a l. at_and d.pos d.neg a ∙ clean (at v a) (at d.pos a) (at d.neg a) (join_false a l) ∙ sym (at_zero a))

without_fits : (w p : ℕ) → w < 2 ^ 64 → without w p < 2 ^ 64
unfolding without
without_fits w p f = let l = and_le_l w (one p) in xor_lt 64 w (bit_and w (one p)) f (omega arith)

pub join_pos_fits : (r c : Literals) (p : ℕ) → r.pos < 2 ^ 64 → c.pos < 2 ^ 64 → (joined r c p).pos < 2 ^ 64
unfolding joined
join_pos_fits r c p f g = or_lt 64 (without r.pos p) c.pos (without_fits r.pos p f) g

pub join_neg_fits : (r c : Literals) (p : ℕ) → r.neg < 2 ^ 64 → c.neg < 2 ^ 64 → (joined r c p).neg < 2 ^ 64
unfolding joined
join_neg_fits r c p f g = or_lt 64 r.neg (without c.neg p) f (without_fits c.neg p g)

-- two words that share no atom are the words of a clause
pub record Words (c : Literals) : Type 0 where
  pub clause : Clause
  pub is : clause_of c ≡ Some clause
  pub words : lits clause ≡ c

pub clause_of_lem : (c : Literals) → bit_and c.pos c.neg ≡ 0 → Words c
unfolding clause_of
clause_of_lem c e =
    let w = go (eqb (bit_and c.pos c.neg) 0) (eqb→eq (bit_and c.pos c.neg) 0) (eq-eqb _ 0 e) in
    record { clause = w.0; is = w.1; words = w.2 }
  where
    go : (b : Bool) (f : T b → bit_and c.pos c.neg ≡ 0) → b ≡ true → (d : Clause) × (clause_if c.pos c.neg b f ≡ Some d) × (lits d ≡ c)
    go true f t = (record { positive = c.pos; negative = c.neg; apart = f tt }, refl, refl)
    go false f t = absurd (both_ways _ refl t)
