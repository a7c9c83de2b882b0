use Rattle.std.proofs.Common.{ap}
use Rattle.clause.specs.declared.words.Clause.{Clause}
use Rattle.clause.specs.Reading.{clear}
use Rattle.clause.proofs.Truths.{same_literals}
use Rattle.dimacs.specs.declared.body.Scan.{Scan}
use Rattle.dimacs.proofs.body.Scan.new.Goals as goal

pub returns : goal.returns
returns c = let scan : Clause → Scan = λ x. record { atoms = c.args.atoms; left = c.args.left; clause = x } in ap scan (same_literals c.empty.result clear c.empty.ensures)
