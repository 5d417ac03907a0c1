use Rattle.std.proofs.Common.{◌≡◌, take}
use Rattle.layout_solver.specs.Removals.{other_stays}
use Rattle.layout_solver.proofs.posing.left_stays.Given as goal

abbrev pub invariant-loop-stay : goal.invariant-loop-stay
invariant-loop-stay l = l.left.items ≡ other_stays l.gone (take l.stay-index l.stays)
