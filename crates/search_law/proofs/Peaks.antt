-- The highest true atom, and what the invariant says of true atoms and false clauses.
use Rattle.std.proofs.Common.{◌≡◌, ℕ, ◌+◌, ◌<◌, ◌≤◌, Bool, true, false, not, ◌&&◌, ◌||◌, List, ⊎_elim, arith}
use Rattle.std.proofs.lemmas.Bool.{cases_lt, both_ways, or_left}
use Rattle.clause.specs.declared.words.Clause.{Clause}
use Rattle.clause.specs.Words.{at}
use Rattle.clause.specs.Clauses.{Literals, lits, makes, top, has}
use Rattle.clause.proofs.Bits.{at_zero}
use Rattle.clause.proofs.Truths.{makes_none, top_has, top_le}
use Rattle.store.specs.Held.{Held, size, clause_at}
use Rattle.session.specs.declared.search.Search.{Search}
use Rattle.session.specs.Reports.{more}
use Rattle.search_law.specs.Law.{Inv, Reason}
use Rattle.search_law.specs.Models.{peak}

pub peak_le : (v a : ℕ) → a ≤ 64 → at v a ≡ true → a ≤ peak v
peak_le v a l t = top_le 64 (record { pos = v; neg = 0 }) a l (or_left (at v a) (at 0 a) t)

pub peak_at : (v : ℕ) → 0 < peak v → at v (peak v) ≡ true
peak_at v h = let x = top_has 64 (record { pos = v; neg = 0 }) h in let y = at_zero (peak v) in grind arith

pub peak_most : (v n : ℕ) → ((q : ℕ) → at v q ≡ true → q ≤ n) → peak v ≤ n
peak_most v n h = ⊎_elim (λ z. h (peak v) (peak_at v z)) (λ z. omega arith) (cases_lt 0 (peak v))

-- a false clause with the literal p: p is false; with not p: p is true
pub plus_off : (v p : ℕ) (c : Literals) → p ≤ 64 → makes v c ≡ false → at c.pos p ≡ true → (at v p ≡ false) × (at c.neg p ≡ false)
plus_off v p c l f h = split (at v p) (at c.pos p) (at c.neg p) h (makes_none 64 v c f p l)
  where
    split : (v p n : Bool) → p ≡ true → (p && v) || (n && not v) ≡ false → (v ≡ false) × (n ≡ false)
    split v p n h k = grind arith

pub minus_on : (v p : ℕ) (c : Literals) → p ≤ 64 → makes v c ≡ false → has c p ≡ true → at c.pos p ≡ false → at v p ≡ true
minus_on v p c l f g h = let k = makes_none 64 v c f p l in grind arith

-- a reason looks only below its atom
pub reason_moves : (c : Literals) (v w p : ℕ) → ((a : ℕ) → a < p → at v a ≡ at w a) → Reason v p c → Reason w p c
reason_moves c v w p h r = record { high = r.high; plus = r.plus; minus = r.minus; rest = λ a l. rw (h a l) at (r.rest a l) }

pub more_le : (n : ℕ) → more n ≤ n + 1
more_le n = omega arith

module _ (acc : List Clause) (h : Held) (s : Search) (I : Inv acc h s) where
  -- a true atom is an atom of the session
  pub true_atom : (q : ℕ) → at s.valuation q ≡ true → (0 < q) × (q ≤ s.atoms)
  true_atom q t =
      let r = I.reasons q t in
      let e = r.reason.high in
      let o = I.ordinary r.place r.inside in
      let x = o.some in
      let y = o.within in
      (omega arith, omega arith)

  pub peak_atoms : peak s.valuation ≤ s.atoms
  peak_atoms = peak_most s.valuation s.atoms (λ q t. (true_atom q t).1)

  -- no true atom is above a false clause
  pub under : (i : ℕ) → i < size h → makes s.valuation (lits (clause_at h.entries i)) ≡ false → (q : ℕ) → at s.valuation q ≡ true → q ≤ top (lits (clause_at h.entries i))
  under i l f q t = ⊎_elim
      (λ z. absurd (both_ways _ f (I.below i q l t z)))
      (λ z. z)
      (cases_lt (top (lits (clause_at h.entries i))) q)
