use Rattle.std.proofs.Common.{◌≡◌}
use Rattle.skip_store.specs.Links.{Joins}
use Rattle.skip_store.proofs.links.Links.join.Given as goal

-- The entry is joined in on the levels passed.
abbrev pub invariant-loop-level : goal.invariant-loop-level
invariant-loop-level l =
    Joins l.initial.self.head l.initial.self.lent.now l.self.head l.self.lent.now l.before l.k l.level × (l.self.lent.ghost_name ≡ l.initial.self.lent.ghost_name)
