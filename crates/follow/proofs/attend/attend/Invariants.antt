use Rattle.std.proofs.Common.{◌≡◌, length}
use Rattle.follow.proofs.Attending.{Sofar}
use Rattle.follow.proofs.attend.attend.Given as goal

abbrev pub invariant-loop-line : goal.invariant-loop-line
invariant-loop-line g l =
    Sofar l.lines l.rest (g.S.ClauseStore.held l.session.store.now) (g.S.ClauseStore.held l.initial.session.store.now) l.session.search l.initial.session.search l.items
    × (l.session.store.ghost_name ≡ l.initial.session.store.ghost_name)

abbrev pub decreases-loop-line : goal.decreases-loop-line
decreases-loop-line g l = length l.rest
