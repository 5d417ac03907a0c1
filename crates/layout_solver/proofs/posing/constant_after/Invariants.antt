use Rattle.std.proofs.Common.{◌≡◌, ◌∷◌, [], take}
use Rattle.layout_solver.specs.Shifts.{shifted}
use Rattle.problem_core.specs.Unfit.{at_constant}
use Rattle.layout_solver.proofs.posing.constant_after.Given as goal

abbrev pub invariant-loop-change : goal.invariant-loop-change
invariant-loop-change l = shifted (take l.change-index l.to) (l.row ∷ []) ≡ at_constant l.constant l.row ∷ []
