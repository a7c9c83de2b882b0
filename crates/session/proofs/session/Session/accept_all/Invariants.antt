use Rattle.std.proofs.Common.{◌≡◌, ℕ}
use Rattle.dimacs.specs.ToCome.{to_come}
use Rattle.session.specs.Calls.{loads}
use Rattle.session.proofs.session.Session.accept_all.Given as goal

abbrev pub invariant-loop-clause : goal.invariant-loop-clause
invariant-loop-clause g l =
    (l.self.store.ghost_name ≡ l.initial.self.store.ghost_name)
    × ((m : ℕ) → loads m (g.S.ClauseStore.held l.self.store.now) l.self.search (to_come l.clause-iterator)
    ≡ loads m (g.S.ClauseStore.held l.initial.self.store.now) l.initial.self.search (to_come l.initial.clause-iterator))
