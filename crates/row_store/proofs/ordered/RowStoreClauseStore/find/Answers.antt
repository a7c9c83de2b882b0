use Rattle.std.proofs.Common.{◌∙◌}
use Rattle.row_store.proofs.InOrder.{found_read, found_lacks}
use Rattle.row_store.proofs.Stores.{ordered}
use Rattle.row_store.proofs.ordered.RowStoreClauseStore.find.Goals as goal

pub returns-in_err-i : goal.returns-in_err-i
returns-in_err-i c = c.from_residual.ensures ∙ found_lacks _ _ _ _ (ordered c.args.self.now) c.args.clause.now c.sought.result c.in_err-i.ensures c.sought.ensures

pub returns : goal.returns
returns c =
    found_read _ _ _ _ (ordered c.args.self.now) c.args.clause.now c.sought.result c.records.result.now c.in_ok-i.i c.index-records-i.result c.number.result
    c.records.ensures c.in_ok-i.ensures c.sought.ensures c.index-records-i.is c.number.ensures
