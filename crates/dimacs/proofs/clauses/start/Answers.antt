use Rattle.dimacs.proofs.Courses.{early_fault}
use Rattle.dimacs.proofs.clauses.start.Goals as goal

pub returns-in-Err : goal.returns-in-Err
returns-in-Err c = record { same = c.in-Err.ensures.same; value = early_fault _ _ _ _ _ c.new.ensures c.in-Err.ensures.value }
