use Rattle.std.proofs.Common.{◌∙◌}
use Rattle.dimacs.proofs.Courses.{none_left, fault_next}
use Rattle.dimacs.proofs.clauses.Clauses.next_clause.Goals as goal

pub returns-in_default-take_word : goal.returns-in_default-take_word
returns-in_default-take_word c = (
  c.loop-word.invariant ∙ fault_next _ _ _ _ _ _ c.in-Some.ensures.cases c.in_default-take_word.ensures,
  none_left _ _ _ c.new-self.ensures,
)
