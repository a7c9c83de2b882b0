use Rattle.row.proofs.Seats.{entered}
use Rattle.row.proofs.Row.insert.Goals as goal

pub invariant_of-self : goal.invariant_of-self
invariant_of-self g c =
    let row = c.args.self.now in
    let after = entered g.R.Record.key row.slots.now row.size row.places c.requires.free row.fits row.ascends c.args.x c.args.seat c.requires.new c.requires.seat c.copy_within.new.self c.copy_within.ensures.after in
    record { within = after.within; fits = after.fits; ascends = after.ascends }

pub returns-clause-slots : goal.returns-clause-slots
returns-clause-slots g c =
    let row = c.args.self.now in
    (entered g.R.Record.key row.slots.now row.size row.places c.requires.free row.fits row.ascends c.args.x c.args.seat c.requires.new c.requires.seat c.copy_within.new.self c.copy_within.ensures.after).slots

pub returns-clause-beyond : goal.returns-clause-beyond
returns-clause-beyond g c =
    let row = c.args.self.now in
    (entered g.R.Record.key row.slots.now row.size row.places c.requires.free row.fits row.ascends c.args.x c.args.seat c.requires.new c.requires.seat c.copy_within.new.self c.copy_within.ensures.after).beyond
