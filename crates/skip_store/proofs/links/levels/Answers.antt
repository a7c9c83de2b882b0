use Rattle.std.proofs.Common.{arith}
use Rattle.skip_store.proofs.Levels.{trailing_small}
use Rattle.skip_store.proofs.links.levels.Goals as goal

pub returns-clause-within : goal.returns-clause-within
returns-clause-within c = omega (arith, trailing_small c.args.k c.requires.0 c.requires.1)
