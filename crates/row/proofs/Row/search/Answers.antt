use Rattle.std.proofs.Common.{arith, rules}
use Rattle.std.proofs.lemmas.Fn.{always_returns_same}
use Rattle.row.proofs.Search.{located, against, answers}
use Rattle.row.proofs.Row.search.Goals as goal

pub returns : goal.returns
returns g c =
    let row = c.args.self.now in
    located g.R.Record.key row.slots.now row.size (omega (arith, row.within, row.fits)) row.ascends c.args.x.now
    _ c.records.ensures _ c.binary_search_by.ensures.bound (c.binary_search_by.ensures.position (against g.R.Record.key (g.R.Record.key c.args.x.now)) (always_returns_same _ _ _ (λ a r f k. (answers (g.R.Record.key a.0.now) (g.R.Record.key c.args.x.now) r (search rules), search rules))))
