-- An exchange more of a run.
use Rattle.std.proofs.Common.{Bool, true, List, [], ◌∷◌, ◌++◌}
use Rattle.problem_core.specs.declared.parts.Mark.{Mark}
use Rattle.problem_core.specs.Layout.{Problem}
use Rattle.problem_core.specs.Corners.{IsCorner, SameMarks, Swap, exchanged}
use Rattle.problem_core.specs.Changes.Paths.{ArePathSwaps, last_marks}
use Rattle.corner_laws.specs.Runs.{AreDualSwaps, IsDualSwap}
use Rattle.corner_laws.proofs.RunSteps.DualRuns.{dual_order_is_free, dual_run_grows}
use Rattle.corner_ends.specs.Trails.{HasRun}
use Rattle.corner_view.specs.Seen.{AreCandidates}
use Rattle.corner_ends.proofs.Signs.{not_both_signs}
use Rattle.corner_ends.proofs.MarkOrders.{same_self}
use Rattle.corner_ends.proofs.Trails.{run_lawful, run_more, run_sound}
use Rattle.problem_core.proofs.Marks.{same-back as same_back, same-multipliers as same_multipliers}
use Rattle.corner_laws.proofs.CornerRays.{corner_has_rays}
use Rattle.corner_laws.proofs.RunSteps.RunPaths.{contains_in}

more-swaps : (p : Problem) (first at : List Mark) (swaps : List Swap) (s : Swap) → HasRun true p first swaps at → IsDualSwap p at s → AreDualSwaps p first (swaps ++ s ∷ [])
more-swaps p first at swaps s run swap = dual_run_grows p first swaps s run.swapped (dual_order_is_free p at (last_marks first swaps) s (same_back (last_marks first swaps) at run.here) swap)

pub swap_more : (p : Problem) (first at new : List Mark) (swaps : List Swap) (s : Swap) → HasRun true p first swaps at → IsDualSwap p at s → SameMarks new (exchanged s at) → HasRun true p first (swaps ++ s ∷ []) new
swap_more p first at new swaps s run swap same = run_more true p first at new swaps s run (more-swaps p first at swaps s run swap) swap.leaves same

-- ---- the corner that a run has come to

corner-along : (dual : Bool) (p : Problem) (at : List Mark) (swaps : List Swap) → IsCorner p at → ArePathSwaps dual p at swaps → IsCorner p (last_marks at swaps)
corner-along dual p at [] corner h = corner
corner-along dual p at (s ∷ swaps) corner h = corner-along dual p (exchanged s at) swaps h.2.corner h.4

-- no column is negative there, so no line need be listed
pub none_settled : (p : Problem) (first at : List Mark) (swaps : List Swap) → HasRun true p first swaps at → AreCandidates p at []
none_settled p first at swaps run m out column =
    let last : List Mark = last_marks first swaps in
    let corner : IsCorner p last = corner-along true p first swaps run.corner (run_lawful true p first at swaps run).lawful in
    let there : HasRun true p first swaps last = record { whole = run.whole; corner = run.corner; rays = run.rays; sound = run.sound; swapped = run.swapped; here = same_self last } in
    absurd (not_both_signs p last m run.whole (corner_has_rays p last run.whole corner) (run_sound true p first last swaps there) (column.0, same_multipliers p last at column.0 (λ v i. contains_in last at v run.here.0 i) column.1, column.2))
