use Rattle.std.proofs.Common.{Some, sym, ap, ◌∙◌}
use Rattle.names.specs.Calls.{spelled_in}
use Rattle.names.specs.Names.{spelled}
use Rattle.names.proofs.Gifts.{numbered}
use Rattle.names.proofs.Numbers.{name_read, name_unread}
use Rattle.names.proofs.table.NameTable.name_of.Goals as goal

pub returns-in_err-i : goal.returns-in_err-i
returns-in_err-i c =
    ap spelled_in c.from_residual.ensures
    ∙ sym (name_unread _ _ _ (numbered c.args.self.now) c.args.atom c.records-records.result.now c.records-records.ensures c.in_err-i.ensures)

pub returns : goal.returns
returns c =
    let f = c.in_ok-i.ensures in
    ap (λ y. Some (spelled y)) c.name.ensures
    ∙ sym (name_read _ _ _ (numbered c.args.self.now) c.args.atom c.records-records.result.now c.in_ok-i.i c.index-records-i.result c.records-records.ensures f.0 f.1 c.index-records-i.is)
