use Rattle.std.proofs.Common.{arith}
use Rattle.names.proofs.Gifts.{table_none, kept_none}
use Rattle.names.proofs.table.NameTable.new.Goals as goal

pub returns-clause-table : goal.returns-clause-table
returns-clause-table c = table_none _ _ _ _ c.row_in.ensures.size c.row_in.ensures.places

pub returns-clause-kept : goal.returns-clause-kept
returns-clause-kept c = kept_none _ _ (table_none _ _ _ _ c.row_in.ensures.size c.row_in.ensures.places) (omega arith)
