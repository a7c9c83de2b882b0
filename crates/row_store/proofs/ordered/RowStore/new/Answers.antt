use Rattle.row_store.proofs.Arrivals.{arrivals_none}
use Rattle.row_store.proofs.ordered.RowStore.new.Goals as goal

pub returns-clause-entries : goal.returns-clause-entries
returns-clause-entries c = arrivals_none _ _ _ c.new-row.ensures.size
