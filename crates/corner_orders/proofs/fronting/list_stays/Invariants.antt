use Rattle.std.proofs.Common.{take}
use Rattle.corner_table.specs.Tables.{lists_of}
use Rattle.corner_orders.specs.Fronted.{AreListedOf}
use Rattle.corner_orders.proofs.fronting.list_stays.Given as goal

abbrev pub invariant-loop-attr : goal.invariant-loop-attr
invariant-loop-attr l = AreListedOf (lists_of l.fn.table) (take l.attr-index l.fn.attrs) l.fn.listed l.listed
