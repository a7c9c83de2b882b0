use Rattle.std.proofs.Common.{◌≡◌, ◌-◌}
use Rattle.reply.specs.Actions.{gained_to}
use Rattle.reply.proofs.action.gained.Given as goal

abbrev pub invariant-loop-atom : goal.invariant-loop-atom
invariant-loop-atom l = gained_to 64 l.before l.after ≡ gained_to (l.atom - 1) l.before l.after
