use Rattle.std.proofs.Common.{sym, ap, ◌∙◌, rules}
use Rattle.row_store.specs.declared.ordered.RowStore.{RowStore}
use Rattle.row_store.specs.Seats.{held_of}
use Rattle.store.specs.Held.{Held}
use Rattle.session.specs.Calls.{opened}
use Rattle.answer.proofs.Answers.{decided, vacant_is, moved, refused}
use Rattle.answer.proofs.call.decide_checked.Goals as goal

abbrev meant : RowStore → Held
meant s = held_of s.row.slots.now s.seats.now s.row.size s.row.places

pub returns-in_err-load : goal.returns-in_err-load
returns-in_err-load c =
    let e = vacant_is _ _ c.new-store.ensures.entries c.new-store.ensures.places in
    let k = ap meant c.open-session.ensures.store in
    let d = decided c.args.atoms c.args.text.now (meant c.open-session.result.store.now) c.open-session.result.search _ (k ∙ e)
    (c.open-session.ensures.search ∙ ap (opened c.args.atoms) (sym k)) c.in_err-load.ensures.made in
    refused c.from_residual.result c.in_err-load.field-0.0 _ _ (search rules) (search rules) d

pub returns : goal.returns
returns c =
    let e = vacant_is _ _ c.new-store.ensures.entries c.new-store.ensures.places in
    let k = ap meant c.open-session.ensures.store in
    let d = decided c.args.atoms c.args.text.now (meant c.open-session.result.store.now) c.open-session.result.search _ (k ∙ e)
    (c.open-session.ensures.search ∙ ap (opened c.args.atoms) (sym k)) c.in_ok-load.ensures.made in
    moved c.run_loaded.result _ _ _ d c.run_loaded.ensures
