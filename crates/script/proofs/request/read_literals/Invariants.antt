use Rattle.std.proofs.Common.{◌≡◌, map, drop, vec_items}
use Rattle.script.specs.Requests.{literals}
use Rattle.script.proofs.Gathered.{onto}
use Rattle.script.proofs.request.read_literals.Given as goal

abbrev pub invariant-loop-w : goal.invariant-loop-w
invariant-loop-w l = literals (map (λ x. x.now) l.words) ≡ onto (vec_items l.literals) (literals (map (λ x. x.now) (drop l.w-index l.words)))
