use Rattle.std.proofs.Common.{◌≡◌, get_or, pos, Ok, Err, Some, None, sym, ap, ◌∙◌, arith, to_z-of_z, w32, SFits, rules}
use Rattle.clause.specs.declared.words.Clause.{Clause}
use Rattle.clause.specs.declared.refusal.Refusal.TheVariants.{BothSigns}
use Rattle.clause.specs.Refusals.{answer}
use Rattle.clause.specs.Reading.{reads, clear}
use Rattle.clause.proofs.Truths.{same_literals}
use Rattle.clause.proofs.Readings.{reads_end, reads_out, reads_both, reads_next, reads_lists}
use Rattle.clause.proofs.words.Clause.of_literals.Goals as goal

pub loop-i-init : goal.loop-i-init
loop-i-init c = ap (λ (d : Clause). reads c.args.atoms 0 d c.args.literals.now) (same_literals c.empty-clause.result clear c.empty-clause.ensures)

pub returns-then-is_outside : goal.returns-then-is_outside
returns-then-is_outside c =
    let f : SFits w32 (get_or c.args.literals.now c.loop-i.i (pos 0)) = search rules in
    record {
      value = reads_out c.args.atoms c.loop-i.i c.loop-i.clause c.args.literals.now _ (omega arith) (to_z-of_z f) _ c.unsigned_abs-atom.ensures.value (sym c.is_outside.ensures ∙ c.if-is_outside.true)
          ∙ c.loop-i.invariant;
      atoms = tt;
    }

pub returns-in_err-clause-clause-value : goal.returns-in_err-clause-clause-value
returns-in_err-clause-clause-value c =
    let f : SFits w32 (get_or c.args.literals.now c.loop-i.i (pos 0)) = search rules in
    let g : c.grow.result ≡ None = search rules in
    let e : c.from_residual.result ≡ Err (BothSigns c.loop-i.i) = search rules in
    ap answer e
    ∙ (reads_both c.args.atoms c.loop-i.i c.loop-i.clause c.args.literals.now _ (omega arith) (to_z-of_z f) _ c.unsigned_abs-atom.ensures.value (sym c.is_outside.ensures ∙ c.if-is_outside.false)
    (sym c.grow.ensures ∙ g)
    ∙ c.loop-i.invariant)

pub loop-i-preserved : goal.loop-i-preserved
loop-i-preserved c =
    let f : SFits w32 (get_or c.args.literals.now c.loop-i.i (pos 0)) = search rules in
    let g : c.grow.result ≡ Some c.in_ok-clause.clause = search rules in
    reads_next c.args.atoms c.loop-i.i c.loop-i.clause c.args.literals.now _ (omega arith) (to_z-of_z f) _ c.in_ok-clause.clause c.unsigned_abs-atom.ensures.value (sym c.is_outside.ensures ∙ c.if-is_outside.false)
    (sym c.grow.ensures ∙ g)
    ∙ c.loop-i.invariant

pub returns : goal.returns
returns c =
    let e = reads_end c.args.atoms c.loop-i.i c.loop-i.clause c.args.literals.now (omega arith) ∙ c.loop-i.invariant in
    record { value = e; atoms = reads_lists c.args.atoms c.args.literals.now (Ok c.loop-i.clause) e }
