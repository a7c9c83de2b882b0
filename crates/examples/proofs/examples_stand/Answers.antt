use Rattle.std.proofs.Common.{refl}
use Rattle.clause.specs.Words.{at, one, with_atom, without, upto}
use Rattle.clause.specs.Clauses.{makes_to, top_to, clause_of, joined}
use Rattle.clause.specs.Order.{rank_to}
use Rattle.clause.specs.Reading.{grown, reads}
use Rattle.store.specs.Held.{find_from, least_from}
use Rattle.session.specs.Searching.{reason_in, setting, cleared}
use Rattle.examples.proofs.examples_stand.Goals as goal

pub returns : goal.returns
unfolding at one with_atom without upto makes_to top_to clause_of joined rank_to grown reads find_from least_from reason_in setting cleared
returns c = (
  (refl, refl),
  (refl, refl, refl),
  (refl, refl),
  (refl, refl),
  (refl, refl),
  (refl, refl),
  refl,
  (refl, refl),
  (refl, refl, refl, refl, refl, refl, refl),
  (refl, refl, refl, refl, refl, refl),
)
