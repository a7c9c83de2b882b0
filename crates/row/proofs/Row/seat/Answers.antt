use Rattle.row.proofs.Search.{seat_of}
use Rattle.row.proofs.Row.seat.Goals as goal

pub returns-in-Ok : goal.returns-in-Ok
returns-in-Ok g c = seat_of g.R.Record.key _ _ _ _ c.args.self.now.ascends c.in-Ok.ensures
