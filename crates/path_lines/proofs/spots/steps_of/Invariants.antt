use Rattle.std.proofs.Common.{◌≡◌, take}
use Rattle.problem_core.specs.Layout.{Problem}
use Rattle.path_lines.specs.Sides.{AreSteps}
use Rattle.path_lines.specs.Tables.{names_of}
use Rattle.path_lines.proofs.spots.steps_of.Given as goal

abbrev pub invariant-loop-swap : goal.invariant-loop-swap
invariant-loop-swap l = (p : Problem) → l.names ≡ names_of p → AreSteps p (take l.swap-index l.swaps) l.steps.items
