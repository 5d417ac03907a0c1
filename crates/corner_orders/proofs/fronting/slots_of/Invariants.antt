use Rattle.std.proofs.Common.{◌≡◌, map, take}
use Rattle.problem_core.specs.declared.parts.RowName.TheVariants.{Stay as StayOf}
use Rattle.corner_table.specs.Tables.{line_slot, lists_of}
use Rattle.corner_orders.proofs.fronting.slots_of.Given as goal

abbrev pub invariant-loop-stay : goal.invariant-loop-stay
invariant-loop-stay l = l.slots.items ≡ map (λ s. line_slot (lists_of l.fn.table) (StayOf s.attr)) (take l.stay-index l.fn.order)
