use Rattle.trace.proofs.Depending.{mark_law, line_law}
use Rattle.trace.proofs.laws.laws_stand.Goals as goal

pub returns : goal.returns
returns c = record { marks = mark_law; lines = line_law }
