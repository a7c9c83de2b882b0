use Rattle.std.proofs.Common.{rules}
use Rattle.session.specs.Searching.{cleared}
use Rattle.session.proofs.search.Search.clear_above.Goals as goal

pub returns : goal.returns
unfolding cleared
returns c = search rules
