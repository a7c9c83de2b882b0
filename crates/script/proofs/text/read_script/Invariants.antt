use Rattle.std.proofs.Common.{vec_items}
use Rattle.std.specs.Iterator.Adapters.{enumerate_count, enumerate_source}
use Rattle.script.specs.Scripts.{lines_of}
use Rattle.script.proofs.Scripting.{Sofar}
use Rattle.script.proofs.text.read_script.Given as goal

abbrev pub invariant-loop-i : goal.invariant-loop-i
invariant-loop-i l = Sofar (lines_of l.script) (vec_items l.lines) (enumerate_count l.i-iterator) (enumerate_source l.i-iterator)
