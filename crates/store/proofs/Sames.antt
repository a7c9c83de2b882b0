-- Clauses have the same literals where they have the same place in clause order.
use Rattle.std.proofs.Common.{◌≡◌, ℕ, ◌^◌, ◌<◌, true, false, eqb, ap, inl, inr}
use Rattle.std.proofs.lemmas.Bool.{cases_Bool, eqb-true, eq-eqb, and_parts, and_from}
use Rattle.clause.specs.declared.words.Clause.{Clause}
use Rattle.clause.specs.Clauses.{Literals, lits, same}
use Rattle.clause.specs.Order.{rank}
use Rattle.clause.proofs.Ranks.{alike_words}
use Rattle.clause.proofs.Truths.{apart_word}

-- the same literals have the same place in clause order
pub same_rank : (c d : Clause) → same c d ≡ true → rank (lits c) ≡ rank (lits d)
same_rank c d t =
    let p = and_parts (eqb c.positive d.positive) (eqb c.negative d.negative) t in
    let a : c.positive ≡ d.positive = eqb-true _ _ p.0 in
    let b : c.negative ≡ d.negative = eqb-true _ _ p.1 in
    ap rank (words c.positive d.positive c.negative d.negative a b)
  where
    words : (a b c d : ℕ) → a ≡ b → c ≡ d → ◌≡◌ {A = Literals} (record { pos = a; neg = c }) (record { pos = b; neg = d })
    words a b c d e f = cc

-- another place, other literals
pub other_rank : (c d : Clause) → (rank (lits c) ≡ rank (lits d) → ⊥) → same c d ≡ false
other_rank c d f = elim (cases_Bool (same c d)) [ inl t ↦ absurd (f (same_rank c d t)) | inr e ↦ e ]

-- the same place, the same literals, where the words have 64 atoms
pub rank_same : (c d : Clause) → (c.positive < 2 ^ 64) × (c.negative < 2 ^ 64) → (d.positive < 2 ^ 64) × (d.negative < 2 ^ 64)
    → rank (lits c) ≡ rank (lits d) → same c d ≡ true
rank_same c d f g e =
    let w = alike_words (lits c) (lits d) (apart_word _ _ c.apart) (apart_word _ _ d.apart) f.0 g.0 f.1 g.1 e in
    and_from _ _ (eq-eqb c.positive d.positive w.0) (eq-eqb c.negative d.negative w.1)
