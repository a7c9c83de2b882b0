use Rattle.std.proofs.Common.{◌≡◌, ℕ, List, Some, Option, sym, ap, ◌∙◌, subst}
use Rattle.row.specs.Order.{Lacks}
use Rattle.names.specs.Bytes.{rank}
use Rattle.names.specs.Calls.{held}
use Rattle.names.specs.Laws.{Inverse}
use Rattle.names.specs.Names.{spelled}
use Rattle.names.specs.Slots.{place}
use Rattle.names.specs.Tables.{atom_of}
use Rattle.names.specs.declared.table.NameTable.{NameTable}
use Rattle.names.proofs.Gifts.{numbered, name_unread, name_read}
use Rattle.names.proofs.Outcomes.{inverse_law}
use Rattle.names.proofs.Numbers.{kept, found_read, found_none, found_bad}
use Rattle.names.proofs.table.NameTable.find.Goals as goal

-- the answer, and what it tells
told : (t : NameTable) (w : List ℕ) (r : Option ℕ) → r ≡ atom_of (held t) w → record { value : r ≡ atom_of (held t) w; inverse : Inverse (held t) w r }
told t w r e = record { value = e; inverse = subst (Inverse (held t) w) (sym e) (inverse_law (held t) (kept _ _ _ (numbered t)) w) }

pub returns-in_err-name : goal.returns-in_err-name
returns-in_err-name c =
    let t = c.args.self.now in
    let w = c.args.word.now in
    told t w c.from_residual.result (c.from_residual.ensures ∙ sym (found_bad _ _ _ (numbered t) w (name_unread w c.try_from.result c.try_from.ensures (sym c.ok.ensures.value ∙ c.in_err-name.was))))

pub returns-in_err-i : goal.returns-in_err-i
returns-in_err-i c =
    let t = c.args.self.now in
    let w = c.args.word.now in
    let g = name_read w c.try_from.result c.in_ok-name.name c.try_from.ensures (sym c.ok.ensures.value ∙ c.in_ok-name.was) in
    let e = ap spelled c.sought.ensures ∙ g.same in
    told t w c.from_residual-in_err-i.result
    (c.from_residual-in_err-i.ensures ∙ sym (found_none _ _ _ (numbered t) w (subst (λ v. Lacks place t.row.slots.now t.row.size (rank v)) e c.in_err-i.ensures)))

pub returns : goal.returns
returns c =
    let t = c.args.self.now in
    let w = c.args.word.now in
    let g = name_read w c.try_from.result c.in_ok-name.name c.try_from.ensures (sym c.ok.ensures.value ∙ c.in_ok-name.was) in
    let e = ap spelled c.sought.ensures ∙ g.same in
    told t w (Some c.atom.result) (sym (ap (atom_of (held t)) (sym e)
    ∙ found_read _ _ _ (numbered t) c.sought.result c.records.result.now c.in_ok-i.i c.index-records-i.result c.atom.result
    c.records.ensures c.in_ok-i.ensures c.index-records-i.is c.atom.ensures))
