use Rattle.std.proofs.Common.{rules}
use Rattle.script.specs.Numbers.{digits}
use Rattle.script.proofs.number.capped.Goals as goal

pub returns : goal.returns
unfolding digits
returns c = search rules
