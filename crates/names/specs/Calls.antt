-- What a table in lent slots stands for.
use Rattle.std.specs.Prelude.{ℕ, List, Some, None, Option}
use Rattle.names.specs.Names.{spelled}
use Rattle.names.specs.Slots.{table_of}
use Rattle.names.specs.Tables.{Table}
use Rattle.names.specs.declared.name.Name.{Name}
use Rattle.names.specs.declared.slot.NameSlot.{NameSlot}
use Rattle.names.specs.declared.table.NameTable.{NameTable}

-- the lent slots
abbrev pub lent : NameTable → List NameSlot
lent t = t.row.slots.now

-- the names with their atoms, and the places
abbrev pub held : NameTable → Table
held t = table_of t.row.slots.now t.row.size t.row.places

-- an answer with its name spelled
abbrev pub spelled_in : Option Name → Option (List ℕ)
spelled_in None = None
spelled_in (Some n) = Some (spelled n)
