use Rattle.std.proofs.Common.{◌∙◌}
use Rattle.dimacs.specs.Reading.{left}
use Rattle.dimacs.proofs.Courses.{early_is, early_parse}
use Rattle.dimacs.proofs.clauses.Clauses.new.Goals as goal

pub returns : goal.returns
returns c =
    let e = early_is _ _ _ _ _ (left c.start-scan.new.reader) c.start-scan.result c.from_heading-reader.ensures.0 c.start-scan.ensures.same c.from_heading-reader.ensures.1 c.start-scan.ensures.value in
    record { first = e; all = λ p q. e ∙ early_parse c.args.n c.args.text.now p q }
