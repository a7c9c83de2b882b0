use Rattle.std.proofs.Common.{ℕ, eqb, ap, ◌∙◌, arith}
use Rattle.clause.specs.Clauses.{lits}
use Rattle.clause.proofs.Truths.{empty_word}
use Rattle.clause.proofs.words.Clause.is_empty.Goals as goal

pub returns : goal.returns
returns c =
    ap (λ (w : ℕ). eqb w 0) c.atoms.ensures
    ∙ empty_word (lits c.args.self.now) (omega (arith, c.atoms.ensures, c.atoms.type_inv))
