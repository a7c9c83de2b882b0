use Rattle.std.proofs.Common.{sym, ◌∙◌}
use Rattle.dimacs.specs.Reading.{left}
use Rattle.dimacs.proofs.Courses.{Headed, headed_is, walked_none, check_ok}
use Rattle.dimacs.proofs.check.check.Goals as goal

pub returns : goal.returns
returns c =
    let r : Headed c.args.n c.args.text.now c.in_ok-heading.heading (left c.heading.new.self) = record {
      first = _;
      all = _;
      text = c.from_heading-reader.ensures.0;
      words = c.from_heading-reader.ensures.1;
      read = c.in_ok-heading.ensures.value;
    } in
    check_ok _ _ _ _ (sym c.if-is_too_large.ensures) (headed_is _ _ _ _ r)
    (walked_none _ _ _ _ _ (c.in_ok-heading.ensures.same ∙ c.from_heading-reader.ensures.0) c.scan.ensures c.in_ok-check_clauses.ensures)
