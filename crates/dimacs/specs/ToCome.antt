-- The clauses that are still to be handed out.
use Rattle.std.specs.Prelude.{List}
use Rattle.clause.specs.declared.words.Clause.{Clause}
use Rattle.dimacs.specs.declared.clauses.Clauses.{Clauses}
use Rattle.dimacs.specs.Reading.{text_end, left}
use Rattle.dimacs.specs.Walk.{walk}

-- those before the first fault
abbrev pub to_come : Clauses → List Clause
to_come c = (walk (text_end c.reader) c.scan (left c.reader)).clauses
