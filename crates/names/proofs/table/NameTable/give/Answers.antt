use Rattle.std.proofs.Common.{Ok, ap, ◌∙◌}
use Rattle.names.proofs.Gifts.{numbered, numbered_after, gift_held, gift_new, gift_full}
use Rattle.names.proofs.table.NameTable.give.Goals as goal

pub invariant_of-self : goal.invariant_of-self
invariant_of-self c =
    let row = c.add.new.self in
    let a = c.add.ensures in
    let w = numbered_after _ _ _ (numbered c.args.self.now) (record { name = c.args.name; atom = c.next_atom-atom.result }) c.next_atom-atom.ensures row.slots.now row.size row.places a.places c.add.result a.adds row.fits row.ascends in
    record { few = w.few; counted = w.counted; seated = w.seated; single = w.single }

pub returns-in-Held : goal.returns-in-Held
returns-in-Held c =
    let row = c.add.new.self in
    let a = c.in-Held.ensures in
    let g = gift_held _ _ _ (numbered c.args.self.now) (record { name = c.args.name; atom = c.next_atom-atom.result }) c.next_atom-atom.ensures row.slots.now row.size row.places a.places c.in-Held.i a.adds
    c.records.result.now c.records.ensures c.index-records-i.result c.atom.result c.index-records-i.is c.atom.ensures in
    record { answers = g.0; after = g.1; refused = tt; beyond = a.beyond; lender = a.lender }

pub returns-in-New : goal.returns-in-New
returns-in-New c =
    let row = c.add.new.self in
    let a = c.in-New.ensures in
    let g = gift_new _ _ _ (numbered c.args.self.now) (record { name = c.args.name; atom = c.next_atom-atom.result }) c.next_atom-atom.ensures row.slots.now row.size row.places a.places c.in-New.field-0 a.adds in
    record { answers = ap Ok c.next_atom-atom.ensures ∙ g.0; after = g.1; refused = tt; beyond = a.beyond; lender = a.lender }

pub returns-in-Full : goal.returns-in-Full
returns-in-Full c =
    let row = c.add.new.self in
    let a = c.in-Full.ensures in
    let g = gift_full _ _ _ (numbered c.args.self.now) (record { name = c.args.name; atom = c.next_atom-atom.result }) c.next_atom-atom.ensures row.slots.now row.size row.places a.places a.adds in
    record { answers = g.0; after = g.1; refused = a.adds.2; beyond = a.beyond; lender = a.lender }
