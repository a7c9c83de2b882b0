use Rattle.std.proofs.Common.{arith, rules}
use Rattle.clause.proofs.Bits.{one_some}
use Rattle.clause.specs.Words.{with_atom}
use Rattle.session.specs.Searching.{setting}
use Rattle.session.proofs.search.Search.set.Goals as goal

pub returns : goal.returns
unfolding setting with_atom
returns c = let e = one_some c.args.atom (omega arith) (omega arith) in simp e (search rules)
