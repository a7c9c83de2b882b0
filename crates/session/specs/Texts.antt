-- What is printed of the end of a run.
use Rattle.std.specs.Prelude.{ℕ, List, ◌++◌, codes, decimal}
use Rattle.session.specs.Reports.{Said, satisfiable, unsatisfiable, stopped, Ended}

abbrev pub said_text : Said → List ℕ
said_text satisfiable = codes "satisfiable"
said_text unsatisfiable = codes "unsatisfiable"
said_text (stopped t) = codes "stopped " ++ decimal t.number

abbrev pub ended_text : Ended → List ℕ
ended_text e = said_text e.outcome ++ (codes ", " ++ (decimal e.made.settings ++ (codes " settings, " ++ (decimal e.made.derivations ++ codes " derivations"))))
