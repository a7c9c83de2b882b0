use Rattle.std.proofs.Common.{ℕ, ◌-◌, ap, ◌∙◌, arith}
use lib.Count.{count_leading_zeros}
use Rattle.clause.specs.Clauses.{lits}
use Rattle.clause.proofs.Truths.{top_word}
use Rattle.clause.proofs.words.Clause.highest.Goals as goal

pub returns : goal.returns
returns c = record {
  value = c.highest_in.ensures.value ∙ ap (λ (w : ℕ). 64 - count_leading_zeros 64 w) c.atoms.ensures
      ∙ top_word (lits c.args.self.now) (omega (arith, c.atoms.ensures, c.atoms.type_inv));
  bound = c.highest_in.ensures.bound;
}
