-- An exchange more of a run.
use Rattle.std.proofs.Common.{false, List, [], ◌∷◌, ◌++◌}
use Rattle.problem_core.specs.declared.parts.Mark.{Mark}
use Rattle.problem_core.specs.Layout.{Problem}
use Rattle.problem_core.specs.Corners.{IsIn, SameMarks, Swap, exchanged, place}
use Rattle.problem_core.specs.Changes.Paths.{last_marks}
use Rattle.corner_laws.specs.Runs.{AreRunSwaps, IsFirstToLeave, IsRunSwap}
use Rattle.corner_laws.proofs.RunSteps.RunPaths.{order_is_free, run_grows}
use Rattle.corner_ends.specs.Trails.{HasRun, in_tie_order}
use Rattle.corner_ends.proofs.Trails.{run_more}
use Rattle.primal_run.specs.Entering.{MayEnter}
use Rattle.problem_core.proofs.Marks.{same-back as same_back}

-- the next exchange
next-swap : (p : Problem) (first at : List Mark) (s : Swap) → MayEnter p at s.enter → IsIn (place s.leave) at → IsFirstToLeave p first at s → IsRunSwap p first at s
next-swap p first at s may leaves choice = record { no_end = may.no_end; mark = may.outside.0; enters = may.outside.1; leaves = leaves; column = may.column; first_to_leave = choice }

more-swaps : (p : Problem) (first at : List Mark) (swaps : List Swap) (s : Swap) → HasRun false p first swaps at → IsRunSwap p (in_tie_order first) at s → AreRunSwaps p (in_tie_order first) first (swaps ++ s ∷ [])
more-swaps p first at swaps s run swap = run_grows p (in_tie_order first) first swaps s run.swapped (order_is_free p (in_tie_order first) at (last_marks first swaps) s (same_back (last_marks first swaps) at run.here) swap)

pub swap_more : (p : Problem) (first at new : List Mark) (swaps : List Swap) (s : Swap) → HasRun false p first swaps at → MayEnter p at s.enter → IsIn (place s.leave) at → IsFirstToLeave p (in_tie_order first) at s → SameMarks new (exchanged s at) → HasRun false p first (swaps ++ s ∷ []) new
swap_more p first at new swaps s run may leaves choice same =
    run_more false p first at new swaps s run (more-swaps p first at swaps s run (next-swap p (in_tie_order first) at s may leaves choice)) leaves same
