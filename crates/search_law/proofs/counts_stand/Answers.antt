use Rattle.search_law.proofs.Counts.{count_law}
use Rattle.search_law.proofs.counts_stand.Goals as goal

pub returns : goal.returns
returns c = count_law
