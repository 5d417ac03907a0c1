use Rattle.std.proofs.Common.{take, All}
use Rattle.problem_core.specs.Corners.{place}
use Rattle.corner_ends.proofs.FirstMarks.{IsElsewhere}
use Rattle.corner_ends.proofs.begins.was_inside.Given as goal

abbrev pub invariant-loop-swap : goal.invariant-loop-swap
invariant-loop-swap g l = All (IsElsewhere (place l.mark)) (take l.swap-index l.swaps)
