use Rattle.std.proofs.Common.{take}
use Rattle.corner_writings.specs.Growing.{IsRowDear}
use Rattle.corner_table.specs.Tables.{lists_of, row_at}
use Rattle.corner_writings.proofs.levels.growing.is_row_dear.Given as goal

abbrev pub invariant-loop-e : goal.invariant-loop-e
invariant-loop-e l = IsRowDear (lists_of l.table) l.w l.side l.l (take l.e-index (row_at (lists_of l.table) l.w))
