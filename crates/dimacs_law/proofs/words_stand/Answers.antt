use Rattle.dimacs_law.proofs.Cuts.{words_are_the_cut}
use Rattle.dimacs_law.proofs.words_stand.Goals as goal

pub returns : goal.returns
returns c = words_are_the_cut
