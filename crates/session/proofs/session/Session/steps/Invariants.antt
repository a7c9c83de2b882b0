use Rattle.std.proofs.Common.{◌≡◌}
use Rattle.session.specs.Reports.{none_made}
use Rattle.session.specs.Steps.{runs}
use Rattle.session.proofs.session.Session.steps.Given as goal

abbrev pub invariant-loop-self : goal.invariant-loop-self
invariant-loop-self g l =
    (runs l.left (g.S.ClauseStore.held l.self.store.now) l.self.search l.made
    ≡ runs l.initial.left (g.S.ClauseStore.held l.initial.self.store.now) l.initial.self.search none_made)
    × (l.self.store.ghost_name ≡ l.initial.self.store.ghost_name)

abbrev pub decreases-loop-self : goal.decreases-loop-self
decreases-loop-self g l = l.left
