-- The exchanges of a run so far, of either kind.
use Rattle.std.specs.Prelude.{◌≡◌, ◌<◌, ◌++◌, ◌∷◌, [], ℕ, Bool, true, false, List, length}
use Rattle.frac_core.specs.declared.memory.Stop.TheVariants.{Refused}
use Rattle.problem_core.specs.declared.parts.Mark.{Mark}
use Rattle.problem_core.specs.declared.parts.RowName.{RowName}
use Rattle.problem_core.specs.declared.parts.RowName.TheVariants.{Held, Stay as StayOf}
use Rattle.problem_core.specs.declared.stops.Quantity.{Quantity}
use Rattle.problem_core.specs.Layout.{Problem}
use Rattle.problem_core.specs.Kept.{IsWhole}
use Rattle.problem_core.specs.Corners.{IsCorner, SameMarks, Swap, place}
use Rattle.problem_core.specs.Changes.Paths.{IsEndOf, IsSound, last_marks}
use Rattle.problem_core.specs.Rays.{HasRays}
use Rattle.corner_laws.specs.Runs.{AreDualSwaps, AreRunSwaps}
use Rattle.cert_core.specs.Paths.{Path}
use Rattle.cert_core.specs.Stops.{IsStopOf}
use Rattle.cert_core.specs.declared.stops.RunStop.{RunStop}
use Rattle.cert_core.specs.declared.stops.RunStop.TheVariants.{Conflict, Unfit, Spent, OutOfMemory}
use Rattle.corner_view.specs.Stops.{IsUnfitStop}
use Rattle.corner_view.specs.Seen.{CornerView, in_order, is_mark}
use Rattle.corner_ends.specs.Runs.{FromHere}

-- exchanges of a run, dual or primal
pub record Trail : Type 0 where
  pub dual : Bool
  pub swaps : List Swap

-- the mark in front of these where it is of a row, and behind them where it is of a stay
abbrev pub put_tied : RowName → Mark → List Mark → List Mark
put_tied (Held id) m ms = m ∷ ms
put_tied (StayOf attr) m ms = ms ++ m ∷ []

-- the marks of rows as they stand, and behind them those of stays, last first
abbrev pub in_tie_order : List Mark → List Mark
in_tie_order [] = []
in_tie_order (m ∷ ms) = put_tied m.row m (in_tie_order ms)

-- the exchanges of a dual run from these marks, or of a primal one: of two marks that come to 0 together that
-- one leaves which counts less at the first of these marks, in that order, at which they differ
abbrev pub AreSwapsOf : Bool → Problem → List Mark → List Swap → Type 0
AreSwapsOf true p first swaps = AreDualSwaps p first swaps
AreSwapsOf false p first swaps = AreRunSwaps p (in_tie_order first) first swaps

-- the exchanges of a run lead to these marks, from a corner with the marks `first`, at which no column is
-- negative if the run is dual, and else no value
pub record HasRun (dual : Bool) (p : Problem) (first : List Mark) (swaps : List Swap)
    (at : List Mark) : Type 0 where
  pub whole : IsWhole p
  pub corner : IsCorner p first
  pub rays : HasRays p first
  pub sound : IsSound dual p first
  pub swapped : AreSwapsOf dual p first swaps
  pub here : SameMarks (last_marks first swaps) at

-- the trail is of such a run, whose first corner has its marks in order
pub record IsTrailOf (dual : Bool) (p : Problem) (first : List Mark) (trail : Trail)
    (at : List Mark) : Type 0 where
  pub kind : trail.dual ≡ dual
  pub swapped : HasRun dual p first trail.swaps at
  pub ordered : first ≡ in_order p first

-- ---- what holds of a trail at a corner, whichever run it is of

-- these are the marks of the run's first corner
abbrev pub IsFirstCorner : CornerView → Trail → List Mark → Type 0
IsFirstCorner c trail marks = (dual : Bool) (first : List Mark) → IsTrailOf dual c.problem first trail c.marks
    → marks ≡ first

-- the mark is among these or not, as told
abbrev pub BeganWith : CornerView → Trail → Mark → Bool → Type 0
BeganWith c trail m told = (dual : Bool) (first : List Mark) → IsTrailOf dual c.problem first trail c.marks
    → told ≡ is_mark first (place m)

-- the path goes from the run's first corner by these exchanges
abbrev pub IsPathBy : CornerView → Trail → List Swap → Path → Type 0
IsPathBy c trail swaps path = (dual : Bool) (first : List Mark) → IsTrailOf dual c.problem first trail c.marks
    → path ≡ record { dual = dual; corner = first; swaps = swaps }

-- where the run goes on by this exchange, the new trail is of it
abbrev pub GoesOnBy : Trail → Swap → Trail → Type 0
GoesOnBy old swap new = (dual : Bool) (p : Problem) (first at next : List Mark)
    → IsTrailOf dual p first old at → HasRun dual p first (old.swaps ++ swap ∷ []) next
    → IsTrailOf dual p first new next

-- a run whose trail at one corner was the old one has the new one at the other
abbrev pub StaysTrail : Bool → CornerView → Trail → CornerView → Trail → Type 0
StaysTrail dual c old next new = (first : List Mark) → IsTrailOf dual c.problem first old c.marks
    → IsTrailOf dual next.problem first new next.marks

-- the run stops so where one exchange more is within the budget
abbrev pub IsTrailStop : Bool → CornerView → Trail → RunStop → Type 0
IsTrailStop dual c trail stop = (first : List Mark) → IsTrailOf dual c.problem first trail c.marks
    → (budget : ℕ) → length trail.swaps < budget
    → IsStopOf dual c.problem c.problem.rows (FromHere first) budget stop

-- the stop shows no conflict
abbrev pub IsNoConflict : RunStop → Type 0
IsNoConflict (Conflict by) = ⊥
IsNoConflict (Unfit at) = Unit {0}
IsNoConflict (Spent path) = Unit {0}
IsNoConflict OutOfMemory = Unit {0}

-- the run stops so where its exchanges are the budget's, and the corner is no end
abbrev pub IsSpentStop : CornerView → Trail → RunStop → Type 0
IsSpentStop c trail stop = (dual : Bool) (first : List Mark) → IsTrailOf dual c.problem first trail c.marks
    → (IsEndOf dual c.problem c.marks → ⊥)
    → IsStopOf dual c.problem c.problem.rows (FromHere first) (length trail.swaps) stop

-- the run stops so where it goes on by this exchange, and the quantity does not fit there
abbrev pub IsUnfitAfter : CornerView → Trail → Swap → Quantity → RunStop → Type 0
IsUnfitAfter c trail swap quantity stop = (dual : Bool) (first next : List Mark)
    → IsTrailOf dual c.problem first trail c.marks
    → HasRun dual c.problem first (trail.swaps ++ swap ∷ []) next
    → IsUnfitStop c.problem next (Refused quantity) → (budget : ℕ) → length trail.swaps < budget
    → IsStopOf dual c.problem c.problem.rows (FromHere first) budget stop
