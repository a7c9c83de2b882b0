use Rattle.std.proofs.Common.{sym, ◌∙◌}
use Rattle.row_store.specs.Keeps.{length_arrivals}
use Rattle.row_store.proofs.ordered.RowStoreClauseStore.size.Goals as goal

pub returns : goal.returns
returns c = c.count.ensures ∙ sym (length_arrivals _ _ _)
