use Rattle.dimacs_law.proofs.Lines.{preface_is_lines}
use Rattle.dimacs_law.proofs.preface_stands.Goals as goal

pub returns : goal.returns
returns c = preface_is_lines
