use Rattle.std.proofs.Common.{sym, ◌∙◌, arith}
use Rattle.clause.proofs.Bits.{at_high, at_read, at_none}
use Rattle.clause.proofs.truth.stands.Goals as goal
use Rattle.clause.proofs.truth.stands.Goals.{then-atom-eq0-via-then-atom-eq0, then-atom-eq0-via-else-atom-eq0+then-atom-gt64}

pub returns-then-atom-eq0 : goal.returns-then-atom-eq0
returns-then-atom-eq0 c =
    elim c.then-atom-eq0.branch [
      | then-atom-eq0-via-then-atom-eq0 w ↦ sym (at_none c.args.word c.args.atom w.if-atom-eq0.true)
      | then-atom-eq0-via-else-atom-eq0+then-atom-gt64 w ↦ sym (at_high c.args.word c.args.atom c.ranges.word.fits w.if-atom-gt64.true)
    ]

pub returns : goal.returns
returns c = c.is_set.ensures ∙ at_read c.args.word c.args.atom (omega arith)
