use Rattle.std.proofs.Common.{◌≡◌, take, drop, map, ◌++◌}
use Rattle.row_core.proofs.Negated.{opposite}
use Rattle.row_core.proofs.row.IntRow.negated.Given as goal

abbrev pub invariant-loop-i : goal.invariant-loop-i
invariant-loop-i l = l.entries.items ≡ map opposite (take l.i l.fn.self) ++ drop l.i l.fn.self
