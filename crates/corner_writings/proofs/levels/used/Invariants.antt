use Rattle.std.proofs.Common.{◌+◌}
use Rattle.corner_table.specs.Tables.{lists_of}
use Rattle.corner_writings.proofs.LevelFacts.UsedLevels.{AreUsedBelow}
use Rattle.corner_writings.proofs.levels.used.Given as goal

abbrev pub invariant-loop-level : goal.invariant-loop-level
invariant-loop-level l = AreUsedBelow (lists_of l.fn.table) l.level l.out.items

abbrev pub invariant-loop-stay : goal.invariant-loop-stay
invariant-loop-stay l = AreUsedBelow (lists_of l.fn.table) (1001 + l.stay-index) l.out.items
