use Rattle.search_law.proofs.Least.{least_law}
use Rattle.search_law.proofs.least_stands.Goals as goal

pub returns : goal.returns
returns c = least_law
