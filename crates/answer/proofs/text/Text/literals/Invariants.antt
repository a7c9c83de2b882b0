use Rattle.std.proofs.Common.{◌≡◌, ◌+◌, ◌-◌, ◌*◌, ◌≤◌, ◌++◌, length}
use Rattle.answer.specs.Printed.{literals}
use Rattle.answer.proofs.text.Text.literals.Given as goal

abbrev pub invariant-loop-atom : goal.invariant-loop-atom
invariant-loop-atom l =
    (l.self ≡ l.initial.self ++ literals (l.atom - 1) l.valuation)
    × (length l.self ≤ length l.initial.self + 4 * (l.atom - 1))
