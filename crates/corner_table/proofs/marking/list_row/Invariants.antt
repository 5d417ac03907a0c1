use Rattle.std.proofs.Common.{take}
use Rattle.corner_table.specs.Tables.{IsListedOf, lists_of, row_at}
use Rattle.corner_table.proofs.marking.list_row.Given as goal

abbrev pub invariant-loop-e : goal.invariant-loop-e
invariant-loop-e l = IsListedOf l.w (take l.e-index (row_at (lists_of l.table) l.w)) l.fn.listed l.listed
