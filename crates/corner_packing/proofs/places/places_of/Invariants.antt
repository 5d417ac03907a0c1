use Rattle.corner_table.specs.declared.table.TheConstants.{LEVELS}
use Rattle.corner_table.specs.Tables.{lists_of}
use Rattle.corner_packing.specs.Packing.{IsTaken}
use Rattle.corner_packing.specs.Places.{AreDense}
use Rattle.corner_packing.proofs.places.places_of.Given as goal

abbrev pub invariant-loop-w : goal.invariant-loop-w
invariant-loop-w l = AreDense (IsTaken (lists_of l.table)) LEVELS l.w l.places.of.items l.places.count
