-- The way to a path's first corner, exchange by exchange, and along its swaps.
use Rattle.std.specs.Prelude.{◌≡◌, ◌≢◌, ◌↔◌, ◌+◌, ◌<◌, ℕ, List, [], ◌∷◌, ◌++◌, length}
use Rattle.std.specs.Prelude.{slice_index_or, All, Option, None, Some}
use Rattle.problem_core.specs.declared.parts.Side.{Side}
use Rattle.problem_core.specs.declared.parts.Mark.{Mark}
use Rattle.problem_core.specs.Layout.{Problem}
use Rattle.problem_core.specs.Changes.Begins.{AreExchanges}
use Rattle.problem_core.specs.Corners.{IsCorner, IsIn, Swap, exchanged, place, place_of}
use Rattle.problem_core.specs.declared.stops.Quantity.{Quantity}
use Rattle.cert_core.specs.Paths.{Path}
use Rattle.path_lines.specs.declared.spots.Spot.{Spot}
use Rattle.path_lines.specs.declared.spots.Step.{Step}
use Rattle.path_claims.specs.declared.way.TheConstants.{PATH_LIMIT}
use Rattle.path_claims.specs.declared.way.WayStop.{WayStop}
use Rattle.path_claims.specs.declared.way.WayStop.TheVariants.{Fails, NoRoom, OutOfMemory}
use Rattle.path_claims.specs.declared.verdict.PathVerdict.{PathVerdict}
use Rattle.path_claims.specs.declared.verdict.PathVerdict.TheVariants.{No, NoRoom as NoRoomFor}
use Rattle.path_lines.specs.Route.{GivesWay, GoesBy, IsRoute, MayGiveWay, corner_after, over_marks}
use Rattle.path_lines.specs.Room.{HasNoRoom}
use Rattle.path_lines.specs.Sides.{IsWithin}
use Rattle.path_lines.specs.Tables.{AreSides, IsThere, line_count, mark_of, name_at, swap_of}

-- its exchanges can be counted
abbrev pub IsShortPath : Path → Type 0
IsShortPath path = length path.corner + length path.swaps < PATH_LIMIT

-- ---- one mark is brought in

-- the exchange that brings the mark in after so many, and what holds of the corner that it leads to
pub record IsBroughtBy (p : Problem) (wanted at : List Mark) (enter : Spot) (holds : List Mark → Type 0)
    (made next_made : ℕ) (last : Option Step) : Type 0 where
  pub step : Step
  pub enter_is : step.enter ≡ enter
  pub gives : GivesWay p wanted at (swap_of p step)
  pub within : IsWithin (line_count p) step
  pub kept_is : holds (exchanged (swap_of p step) at)
  pub step_is : last ≡ Some step
  pub count_is : next_made ≡ made + 1

-- no mark gives way to it there
abbrev pub IsBroughtByNone : Problem → List Mark → List Mark → Spot → Type 0
IsBroughtByNone p wanted at enter = IsThere p at
    × ((m : Mark) → MayGiveWay p wanted at (record { enter = mark_of p enter; leave = m }) → ⊥)

-- ---- all marks, one after the other

-- each exchange brings in a wanted mark that is not inside
abbrev pub AreNew : List Mark → List Mark → List Swap → Type 0
AreNew wanted at [] = Unit {0}
AreNew wanted at (s ∷ done) = IsIn (place s.enter) wanted × (IsIn (place s.enter) at → ⊥)
    × AreNew wanted (exchanged s at) done

-- before the first exchange nothing is kept
abbrev pub IsBegun : List Swap → Option Step → Type 0
IsBegun [] o = o ≡ None
IsBegun (s ∷ done) o = o ≢ None

-- the route has come to a corner by so many exchanges, at which this holds: these marks of the path's first
-- corner are inside, and the rest is to come
pub record IsRouteAt (p : Problem) (path : Path) (holds : List Mark → Type 0) (before rest : List Mark)
    (made : ℕ) (last : Option Step) (by_line : List (Option Side)) : Type 0 where
  pub done : List Swap
  pub count : length done ≡ made
  pub begun : IsBegun done last
  pub there : IsThere p (corner_after p done)
  pub kept : holds (corner_after p done)
  pub sides : AreSides p (corner_after p done) by_line
  pub goes_on : (more : List Swap) → GoesBy p path.corner path.swaps (corner_after p done) rest more
      → IsRoute p path (done ++ more)
  pub inside : All (λ m. IsIn (place m) (corner_after p done)) before
  pub wanted : All (λ m. IsIn (place m) path.corner) before
  pub new : AreNew path.corner (over_marks p) done

-- the marks are no corner, or there is no room
abbrev pub IsMarkStop : Problem → Path → WayStop → Type 0
IsMarkStop p path Fails = IsCorner p path.corner → ⊥
IsMarkStop p path (NoRoom n) = (unfit : Option Quantity) → HasNoRoom p path unfit n
IsMarkStop p path OutOfMemory = Unit {0}

-- which mark of each of the first n lines is inside where the route begins
pub record AreFirstSides (p : Problem) (n : ℕ) (sides : List (Option Side)) : Type 0 where
  pub count : length sides ≡ n
  pub each : (k : ℕ) (side : Side) → k < n
      → (slice_index_or sides k None ≡ Some side) ↔ IsIn (place_of (name_at p k) side) (over_marks p)

-- ---- the swaps of a path

-- a swap is no exchange, or there is no room
abbrev pub IsSwapStop : Problem → Path → WayStop → Type 0
IsSwapStop p path Fails = AreExchanges p path.corner path.swaps → ⊥
IsSwapStop p path (NoRoom n) = (unfit : Option Quantity) → HasNoRoom p path unfit n
IsSwapStop p path OutOfMemory = Unit {0}

-- ---- the verdict

-- the clause fails, or there is no room after so many exchanges
abbrev pub IsEnded : WayStop → ℕ → PathVerdict → Type 0
IsEnded Fails clause v = v ≡ No clause
IsEnded (NoRoom n) clause v = v ≡ NoRoomFor n
IsEnded OutOfMemory clause v = ⊥
