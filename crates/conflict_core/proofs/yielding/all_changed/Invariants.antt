use Rattle.std.proofs.Common.{◌≡◌, ◌∷◌, [], take}
use Rattle.layout_solver.specs.Shifts.{shifted}
use Rattle.conflict_core.proofs.yielding.all_changed.Given as goal

abbrev pub invariant-loop-row : goal.invariant-loop-row
invariant-loop-row l = l.out.items ≡ shifted (l.to ∷ []) (take l.row-index l.rows)
