use Rattle.std.proofs.Common.{Some, sym, ap, ◌∙◌}
use Rattle.std.proofs.lemmas.List.{get_or_read}
use Rattle.row_store.specs.Seats.{vacant}
use Rattle.row_store.proofs.InOrder.{least_first, least_all}
use Rattle.row_store.proofs.Stores.{ordered}
use Rattle.row_store.proofs.ordered.RowStoreClauseStore.least_false.Goals as goal

pub returns-in_err-i : goal.returns-in_err-i
returns-in_err-i c =
    c.from_residual.ensures ∙ sym (least_all _ _ _ _ (ordered c.args.self.now) c.args.valuation c.records-records.result.now c.records-records.ensures c.in_err-i.ensures)

pub returns : goal.returns
returns c =
    let ps = c.records-records.result.now in
    let f = c.in_ok-i.ensures in
    ap Some c.number.ensures ∙ ap (λ x. Some x.number) (get_or_read ps c.in_ok-i.i c.index-records-i.result f.0 c.index-records-i.is vacant)
    ∙ sym (least_first _ _ _ _ (ordered c.args.self.now) c.args.valuation ps c.in_ok-i.i c.records-records.ensures f)
