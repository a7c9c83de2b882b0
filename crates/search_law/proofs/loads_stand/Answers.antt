use Rattle.search_law.proofs.Decides.{decide_law}
use Rattle.search_law.proofs.Texts.{clause_law, bound_law}
use Rattle.search_law.proofs.loads_stand.Goals as goal

pub returns : goal.returns
returns c = record { clauses = clause_law; bounds = bound_law; decides = decide_law }
