-- What a step that stops shows, and what the check of it writes.
use Rattle.std.specs.Prelude.{◌≡◌, ◌⊎◌, ℕ, true, List, [], ◌++◌, Some, None, All}
use Rattle.problem_core.specs.declared.parts.Mark.{Mark}
use Rattle.problem_core.specs.Layout.{Problem, Row}
use Rattle.problem_core.specs.Kept.{IsRow, IsWhole}
use Rattle.cert_core.specs.declared.stops.RunStop.{RunStop}
use Rattle.cert_core.specs.declared.stops.RunStop.TheVariants.{Conflict, OutOfMemory, Spent, Unfit}
use Rattle.cert_core.specs.Claims.{AreBys}
use Rattle.corner_view.specs.Seen.{in_order}
use Rattle.layout_solver.specs.Begins.{IsStopFrom, Start}
use Rattle.layout_solver.specs.declared.request.RequestStop.{RequestStop}
use Rattle.layout_solver.specs.declared.request.RequestStop.TheVariants as request
use Rattle.layout_solver.specs.Removals.{IsRemoveStop, Leaving, without, without_rows}
use Rattle.claim_writing.specs.declared.claim.Claim.TheVariants.{IsConflict, IsPath}
use Rattle.problem_reading.specs.ProblemForms.{IsSmall}
use Rattle.session_laws.specs.Shown.Shown.{IsAcceptedClaim, judged_in}

-- what the stop shows is accepted, where these are the rows before: multipliers, which are kept as their type
-- has them, or a path
abbrev pub IsAcceptedStop : List Row → Problem → RunStop → Type 0
IsAcceptedStop old p (Conflict by) = AreBys by → IsAcceptedClaim p (IsConflict by)
IsAcceptedStop old p (Unfit at) = IsAcceptedClaim (judged_in old p at.quantity)
    (IsPath at.path (Some at.quantity))
IsAcceptedStop old p (Spent path) = IsAcceptedClaim p (IsPath path None)
IsAcceptedStop old p OutOfMemory = Unit {0}

-- why rows don't join, or constants don't change, is shown so that it is accepted; where constants change,
-- the marks of the corner that was kept are in order
abbrev pub StepStopsAreAccepted : Type 0
StepStopsAreAccepted = (s : Start) (p : Problem) (budget : ℕ) (stop : RunStop) → IsWhole p → IsSmall p
    → All IsRow s.before → (s.dual ≡ true → s.kept ≡ in_order p s.kept) → IsStopFrom s p budget stop
    → IsAcceptedStop s.before p stop

-- ---- what leaves

-- the problem in which a stop of a removal is judged: without the rows that have gone, while these are still
-- held, or where none is told, without all that leaves
abbrev pub IsLeftWith : Problem → Leaving → (still : List ℕ) → Problem → Type 0
IsLeftWith p l still q = ((gone : List ℕ) × (gone ++ still ≡ l.rows) × (q ≡ without_rows gone p))
    ⊎ ((still ≡ []) × (q ≡ without l p))

-- what a stop of a removal shows is accepted in that problem, where the types can hold it and the form can
-- say it
abbrev pub IsAcceptedLeaving : Problem → Leaving → RequestStop → Type 0
IsAcceptedLeaving p l (request.Unfit still at) = (q : Problem) × IsLeftWith p l still.items q
    × (IsWhole q → IsSmall q → IsAcceptedStop q.rows q (Unfit at))
IsAcceptedLeaving p l (request.Conflict by) = ⊥
IsAcceptedLeaving p l (request.Spent path) = IsWhole (without l p) → IsSmall (without l p)
    → IsAcceptedClaim (without l p) (IsPath path None)
IsAcceptedLeaving p l request.OutOfMemory = Unit {0}

-- why what leaves stops is shown so that it is accepted
abbrev pub LeavingStopsAreAccepted : Type 0
LeavingStopsAreAccepted = (p : Problem) (kept : List Mark) (l : Leaving) (budget : ℕ) (stop : RequestStop)
    → IsRemoveStop p kept l budget stop → IsAcceptedLeaving p l stop
