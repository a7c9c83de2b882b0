use Rattle.std.proofs.Common.{refl}
use Rattle.clause.specs.Words.{at, one, with_atom}
use Rattle.clause.specs.Clauses.{top_to, clause_of}
use Rattle.clause.specs.Reading.{grown}
use Rattle.dimacs_law.specs.Examples.{Reads, Faults}
use Rattle.dimacs_law.proofs.examples_stand.Goals as goal

read_well : Reads
unfolding at one with_atom top_to clause_of grown
read_well = record { three = refl; repeats = refl; blank_line_first = refl }

refused_where : Faults
unfolding at one with_atom top_to clause_of grown
refused_where = record {
  minus_zero = refl;
  leading_zero = refl;
  indented_comment = refl;
  heading_ends = refl;
  too_many_atoms = refl;
  too_many_clauses = refl;
  no_such_atom = refl;
  overlong = refl;
  both_signs = refl;
  no_literal = refl;
  one_more = refl;
  clause_ends = refl;
}

pub returns : goal.returns
returns c = (read_well, refused_where)
