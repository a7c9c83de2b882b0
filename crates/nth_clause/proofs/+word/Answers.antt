use Rattle.std.proofs.Common.{ℕ, ◌+◌, ◌*◌, ◌<◌, sym, ◌∙◌, subst, ap₂, arith, pow_pos}
use Rattle.nth_clause.proofs.Numbered.{word_none, word_more, more_fits, unit_bit}
use Rattle.nth_clause.proofs.+word.Goals as goal

pub returns-then-atoms-eq0 : goal.returns-then-atoms-eq0
returns-then-atoms-eq0 t c =
    record { value = word_none c.args.digit c.args.atoms c.args.k c.if-atoms-eq0.true; below = pow_pos c.args.atoms }

pub returns : goal.returns
returns t c =
    record {
      value = ap₂ (λ (w u : ℕ). 2 * w + u) c.word.ensures.value c.unit.ensures
          ∙ word_more c.args.digit c.args.atoms c.args.k (omega arith);
      below = more_fits c.args.atoms _ _ (omega arith) c.word.ensures.below
          (subst (λ u. u < 2) (sym c.unit.ensures) (unit_bit c.args.digit c.args.k));
    }
