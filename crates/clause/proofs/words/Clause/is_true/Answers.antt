use Rattle.std.proofs.Common.{ℕ, not, eqb, ap, ◌∙◌, arith}
use Rattle.clause.specs.Clauses.{lits}
use Rattle.clause.proofs.Truths.{makes_word}
use Rattle.clause.proofs.words.Clause.is_true.Goals as goal

pub returns : goal.returns
returns c =
    ap (λ (w : ℕ). not (eqb w 0)) c.true_atoms.ensures
    ∙ makes_word c.args.valuation (lits c.args.self.now) (omega (arith, c.true_atoms.ensures, c.true_atoms.type_inv))
