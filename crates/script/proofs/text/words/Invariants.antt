use Rattle.std.proofs.Common.{vec_items}
use Rattle.script.specs.Lines.{words}
use Rattle.script.proofs.Cuts.{Sofar}
use Rattle.script.proofs.text.words.Given as goal

abbrev pub invariant-loop-piece : goal.invariant-loop-piece
invariant-loop-piece l = Sofar (words l.line) (vec_items l.words) l.piece-iterator
