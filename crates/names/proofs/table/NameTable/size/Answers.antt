use Rattle.std.proofs.Common.{sym, ◌∙◌}
use Rattle.names.proofs.Holders.{length_names}
use Rattle.names.proofs.table.NameTable.size.Goals as goal

pub returns : goal.returns
returns c = c.count.ensures ∙ sym (length_names _ _)
