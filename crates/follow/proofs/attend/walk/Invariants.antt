use Rattle.std.proofs.Common.{◌≡◌, ◌-◌}
use Rattle.follow.specs.Sessions.{walked}
use Rattle.follow.proofs.attend.walk.Given as goal

abbrev pub invariant-loop : goal.invariant-loop
invariant-loop g l =
    (walked (l.most - l.counter) (g.S.ClauseStore.held l.session.store.now) l.session.search l.items
    ≡ walked l.most (g.S.ClauseStore.held l.initial.session.store.now) l.initial.session.search l.initial.items)
    × (l.session.store.ghost_name ≡ l.initial.session.store.ghost_name)
