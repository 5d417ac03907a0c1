use Rattle.std.proofs.Common.{◌≡◌}
use Rattle.corner_table.specs.Tables.{lists_of}
use Rattle.corner_table.specs.Joining.{HasNoPast, levels_below}
use Rattle.corner_table.proofs.table.new_table.Given as goal

abbrev pub invariant-loop-level : goal.invariant-loop-level
invariant-loop-level l = record { past : HasNoPast l.table; lists : lists_of l.table ≡ levels_below l.level }
