-- A sound trace refutes its given lines.
use Rattle.std.proofs.Common.{◌≡◌, ℕ, zero, suc, ◌-◌, ◌<◌, ◌≤◌, Bool, true, false, not, ◌&&◌, ◌||◌, eqb, List, length, sym, refl, ap, ◌∙◌, ⊎_elim, arith}
use Rattle.std.proofs.lemmas.Nat.{le-div}
use Rattle.std.proofs.lemmas.Bool.{cases_eq, ne_eqb, both_ways}
use Rattle.clause.specs.Words.{at}
use Rattle.clause.specs.Clauses.{Literals, Shares, lit, makes}
use Rattle.clause.proofs.Truths.{makes_find, makes_some, empty_false}
use Rattle.lines.specs.Format.{literals, line_at}
use Rattle.rule.specs.Rule.{Cancels, Joined}
use Rattle.rule.proofs.Law.{absent}
use Rattle.trace_check.specs.Checks.{Upto, Sound}
use Rattle.trace_check.specs.Meaning.{Models, Refutes}

-- a valuation that makes two clauses true makes them true joined without the one atom that cancels
module _ (v p : ℕ) (r c d : Literals) (k : Cancels r c p) (x : Shares r.pos r.neg → ⊥) (y : Shares c.pos c.neg → ⊥) (j : Joined r c p d) where
  -- a true literal of another atom stays
  stays_first : (a : ℕ) → (a ≡ p → ⊥) → lit v r a ≡ true → lit v d a ≡ true
  stays_first a n e = go (at r.pos a) (at r.neg a) (at c.pos a) (at c.neg a) (at v a) (eqb a p) _ _ (ne_eqb a p n) e (j.positives a) (j.negatives a)
    where
      go : (rp rn cp cn w e dp dn : Bool) → e ≡ false → (rp && w) || (rn && not w) ≡ true → dp ≡ (rp || cp) && not e → dn ≡ (rn || cn) && not e → (dp && w) || (dn && not w) ≡ true
      go rp rn cp cn w e dp dn f g s t = grind arith

  stays_second : (a : ℕ) → (a ≡ p → ⊥) → lit v c a ≡ true → lit v d a ≡ true
  stays_second a n e = go (at r.pos a) (at r.neg a) (at c.pos a) (at c.neg a) (at v a) (eqb a p) _ _ (ne_eqb a p n) e (j.positives a) (j.negatives a)
    where
      go : (rp rn cp cn w e dp dn : Bool) → e ≡ false → (cp && w) || (cn && not w) ≡ true → dp ≡ (rp || cp) && not e → dn ≡ (rn || cn) && not e → (dp && w) || (dn && not w) ≡ true
      go rp rn cp cn w e dp dn f g s t = grind arith

  -- the atom itself is true by the first, and false by the second
  by_first : lit v r p ≡ true → at v p ≡ true
  by_first e = go (at r.pos p) (at r.neg p) (at v p) (absent r.neg p (λ t. x (p, k.positive, t))) e
    where
      go : (rp rn w : Bool) → rn ≡ false → (rp && w) || (rn && not w) ≡ true → w ≡ true
      go rp rn w f g = grind arith

  by_second : lit v c p ≡ true → at v p ≡ false
  by_second e = go (at c.pos p) (at c.neg p) (at v p) (absent c.pos p (λ t. y (p, t, k.negative))) e
    where
      go : (cp cn w : Bool) → cp ≡ false → (cp && w) || (cn && not w) ≡ true → w ≡ false
      go cp cn w f g = grind arith

  pub joined_true : makes v r ≡ true → makes v c ≡ true → makes v d ≡ true
  joined_true s t =
      let f = makes_find 64 v r s in
      let g = makes_find 64 v c t in
      ⊎_elim
      (λ e. ⊎_elim
      (λ o. absurd (both_ways _ (by_second (ap (lit v c) (sym o) ∙ g.2)) (by_first (ap (lit v r) (sym e) ∙ f.2))))
      (λ o. makes_some 64 v d g.0 g.1 (stays_second g.0 o g.2))
      (cases_eq g.0 p))
      (λ e. makes_some 64 v d f.0 f.1 (stays_first f.0 e f.2))
      (cases_eq f.0 p)

module _ (bs : List ℕ) (n last : ℕ) (lines : Upto bs n last last) (v : ℕ)
    (given : (k : ℕ) → 1 ≤ k → k ≤ last → (line_at bs k).first ≡ 0 → (line_at bs k).second ≡ 0 → makes v (literals (line_at bs k)) ≡ true) where
  all_true : (t : ℕ) → t ≤ last → (k : ℕ) → 1 ≤ k → k ≤ t → makes v (literals (line_at bs k)) ≡ true
  unfolding Upto
  all_true zero h k low high = absurd (omega arith)
  all_true (suc t) h k low high = ⊎_elim
      (λ g. given k low (omega arith) g.0 g.1)
      (λ d. let i : ℕ = (line_at bs k).first in
      let j : ℕ = (line_at bs k).second in
      let i-low : 1 ≤ i = d.first.0 in
      let j-low : 1 ≤ j = d.second.0 in
      let i-high : i < k = d.first.1 in
      let j-high : j < k = d.second.1 in
      joined_true v d.atom (literals (line_at bs i)) (literals (line_at bs j)) (literals (line_at bs k)) d.cancels
      (lines i i-low (omega arith)).apart (lines j j-low (omega arith)).apart d.joins
      (all_true t (omega arith) i i-low (omega arith)) (all_true t (omega arith) j j-low (omega arith)))
      (lines k low (omega arith)).from

  no_valuation : 1 ≤ last → ⊥
  unfolding Upto
  no_valuation h =
      empty_false v (literals (line_at bs last)) ((lines last h (omega arith)).ends.1 refl) (all_true last (omega arith) last h (omega arith))

pub refutes : (bs : List ℕ) → Sound bs → Refutes bs
unfolding Models
refutes bs s v given =
    no_valuation bs s.n s.last s.lines v (λ k low high. given k low (omega (arith, s.ended.count)))
    (omega (arith, s.ended.count, le-div 1 (length bs - 24) 24 (omega arith) (omega (arith, s.ended.long))))
