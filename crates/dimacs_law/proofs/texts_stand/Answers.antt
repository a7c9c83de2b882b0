use Rattle.dimacs_law.proofs.Texts.{texts_are_spelled}
use Rattle.dimacs_law.proofs.texts_stand.Goals as goal

pub returns : goal.returns
returns c = texts_are_spelled
