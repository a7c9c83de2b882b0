use Rattle.std.proofs.Common.{ap, ◌∙◌}
use Rattle.trace.specs.Lines.{as_line}
use Rattle.trace.proofs.Entries.{line_or, line_none}
use Rattle.trace.proofs.held.held_line.Goals as goal

pub returns : goal.returns
returns g c =
    c.entry_line.ensures ∙ ap as_line c.unwrap_or.ensures
    ∙ line_or (g.S.ClauseStore.held c.args.session.now.store.now).entries c.args.k c.entry.result c.given.result c.entry.ensures
    (line_none c.empty.result c.given.result c.empty.ensures c.given.ensures)
