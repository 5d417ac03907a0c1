-- The findings on the route of a path, and the verdict by them.
use Rattle.std.specs.Prelude.{◌↔◌, ◌≤◌, ℕ, Bool, true, false, IsTrue, List, [], ◌∷◌, length, Option}
use Rattle.std.specs.Prelude.{None, Some}
use Rattle.problem_core.specs.declared.parts.Mark.{Mark}
use Rattle.problem_core.specs.declared.stops.Quantity.{Quantity}
use Rattle.problem_core.specs.Layout.{Problem}
use Rattle.problem_core.specs.Corners.{IsCorner, Swap}
use Rattle.problem_core.specs.Changes.Paths.{IsSound}
use Rattle.cert_core.specs.Paths.{Path}
use Rattle.cert_core.specs.Stops.{AreNonnegativeBefore}
use Rattle.path_claims.specs.PathClauses.{EndsInUnfit, HoldToApart, IsCalledFor, IsSoundPath, row_of_terms}
use Rattle.path_lines.specs.Room.{HasNoRoom}
use Rattle.path_claims.specs.declared.along.Walked.{Walked}
use Rattle.path_claims.specs.declared.journey.PathCase.{PathCase}
use Rattle.path_claims.specs.declared.stations.Station.{Station}
use Rattle.path_fits.specs.declared.last.Fit.{Fit}
use Rattle.path_fits.specs.declared.last.Fit.TheVariants.{Fits, Unfit, NoRoom}
use Rattle.path_claims.specs.Journeys.{AreSoundAhead, IsOnRoute}
use Rattle.path_claims.specs.Stations.{IsUsableStation}

-- the path's first corner is a corner, and the route has come to it
pub record IsAtFirst (case : PathCase) (station : Station) : Type 0 where
  pub corner : IsCorner case.p.now case.path.now.corner
  pub usable : IsUsableStation case.outline.now station
  pub count : station.count ≤ length case.path.now.corner
  pub arrived : IsOnRoute case.p.now case.path.now case.outline.now [] station

-- the first three clauses of the path hold, the route has come to the last corner, and all is known of the
-- corners before it
pub record IsWalked (case : PathCase) (walked : Walked) : Type 0 where
  pub holds : HoldToApart case.p.now case.path.now
  pub usable : IsUsableStation case.outline.now walked.station
  pub arrived : IsOnRoute case.p.now case.path.now case.outline.now case.path.now.swaps walked.station
  pub sound : IsTrue walked.is_sound
      ↔ AreSoundAhead case.path.now.dual case.p.now case.path.now.corner case.path.now.swaps
  pub called : IsTrue walked.is_called_for ↔ IsCalledFor case.p.now case.path.now

-- ---- the last corner

-- the first row whose marks are not judged, only on a primal path without a swap
abbrev pub unjudged_from : Bool → List Swap → Option ℕ → Option ℕ
unjudged_from true swaps row = None
unjudged_from false [] row = row
unjudged_from false (s ∷ swaps) row = None

-- the last corner is sound, except for the rows that are not judged
abbrev pub IsSoundFrom : Bool → Problem → List Mark → Option ℕ → Type 0
IsSoundFrom dual p at None = IsSound dual p at
IsSoundFrom dual p at (Some id) = AreNonnegativeBefore p at id

-- the same if the path is shown with this quantity
abbrev pub IsSoundLast : PathCase → Quantity → List Mark → Type 0
IsSoundLast case named at = IsSoundFrom case.path.now.dual case.p.now at
    (unjudged_from case.path.now.dual case.path.now.swaps (row_of_terms (Some named)))

-- the answer to clause 14: it fails, it holds, or there is no room
abbrev pub IsFitFor : Problem → Path → Option Quantity → ℕ → Fit → Type 0
IsFitFor p path unfit count Fits = EndsInUnfit p path unfit → ⊥
IsFitFor p path unfit count Unfit = EndsInUnfit p path unfit
IsFitFor p path unfit count NoRoom = HasNoRoom p path unfit count

-- the clauses from 12 on
pub record IsFound (p : Problem) (path : Path) (unfit : Option Quantity) (sound called : Bool) (fit : Fit)
    (count : ℕ) : Type 0 where
  pub apart : HoldToApart p path
  pub sound_is : IsTrue sound ↔ IsSoundPath p path unfit
  pub called_is : IsTrue called ↔ IsCalledFor p path
  pub fit_is : IsFitFor p path unfit count fit
