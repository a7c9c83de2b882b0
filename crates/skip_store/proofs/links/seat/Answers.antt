use Rattle.std.proofs.Common.{arith}
use Rattle.std.proofs.lemmas.Nat.{pow_pos}
use Rattle.skip_store.proofs.Levels.{shifted, seat_is}
use Rattle.skip_store.proofs.links.seat.Goals as goal

pub overflow_sub-result : goal.overflow_sub-result
overflow_sub-result c = let s = shifted _ _ c.requires.entry c.requires.level.0 c.requires.level.1 in omega arith

pub overflow_sub-result-2 : goal.overflow_sub-result-2
overflow_sub-result-2 c = let s = shifted _ _ c.requires.entry c.requires.level.0 c.requires.level.1 in omega arith

pub returns : goal.returns
returns c =
    let s = shifted _ _ c.requires.entry c.requires.level.0 c.requires.level.1 in
    record { value = seat_is c.args.level c.args.j _ s.0; below = omega (arith, pow_pos c.args.level) }
