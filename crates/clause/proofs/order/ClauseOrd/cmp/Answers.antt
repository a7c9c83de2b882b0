use Rattle.std.proofs.Common.{◌≡◌, ℕ, ◌-◌, ◌∙◌, ap, subst, Ordering, arith}
use lib.Bits.{bit_xor, or_lt, xor_lt}
use lib.Count.{count_leading_zeros}
use Rattle.clause.specs.Clauses.{lits}
use Rattle.clause.specs.Order.{Compares, treats, treated}
use Rattle.clause.proofs.Ranks.{decided, ranked, differing, valued}
use Rattle.clause.proofs.Truths.{apart_word}
use Rattle.clause.proofs.order.ClauseOrd.cmp.Goals as goal

moved : (x y m n : ℕ) (o : Ordering) → m ≡ x → n ≡ y → Compares m n o → Compares x y o
moved x y m n o e f h = let P : ℕ → Type 0 = λ k. Compares k y o in let Q : ℕ → Type 0 = λ k. Compares m k o in subst P e (subst Q f h)

pub returns-clause-atoms : goal.returns-clause-atoms
returns-clause-atoms c =
    let s = c.args.self.now in
    let o = c.args.other.now in
    let small = or_lt 64 (bit_xor s.positive o.positive) (bit_xor s.negative o.negative)
    (xor_lt 64 s.positive o.positive (omega arith) (omega arith)) (xor_lt 64 s.negative o.negative (omega arith) (omega arith)) in
    let a = 64 - count_leading_zeros 64 (differing (lits s) (lits o)) in
    let same-atom = c.highest_in-atom.ensures.value in
    decided (lits s) (lits o) (apart_word _ _ s.apart) (apart_word _ _ o.apart) small c.order_of.result
    (moved (treats (lits s) a) (treats (lits o) a) (treated c.treatment.result) (treated c.treatment-2.result) c.order_of.result
    (c.treatment.ensures ∙ ap (treats (lits s)) same-atom) (c.treatment-2.ensures ∙ ap (treats (lits o)) same-atom) c.order_of.ensures)

pub returns-clause-ranks : goal.returns-clause-ranks
returns-clause-ranks c = ranked (lits c.args.self.now) (lits c.args.other.now) c.order_of.result (returns-clause-atoms c)

pub returns-clause-value : goal.returns-clause-value
returns-clause-value c = valued c.args.self.now c.args.other.now (omega arith, omega arith) (omega arith, omega arith) c.order_of.result (returns-clause-ranks c)
