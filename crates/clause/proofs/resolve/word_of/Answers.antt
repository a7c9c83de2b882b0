use Rattle.std.proofs.Common.{arith}
use Rattle.clause.proofs.Bits.{one_none, one_some}
use Rattle.clause.proofs.resolve.word_of.Goals as goal

pub returns-then-atom-eq0 : goal.returns-then-atom-eq0
returns-then-atom-eq0 c = one_none c.args.atom (omega arith)

pub returns : goal.returns
returns c = one_some c.args.atom (omega arith) (omega arith)
