-- The checker's route with lines and levels: to a path's first corner and along its swaps.
use Rattle.std.specs.Prelude.{◌≡◌, ◌≢◌, Bool, List, [], ◌∷◌, ◌++◌, AllPairs, length, take}
use Rattle.problem_core.specs.declared.parts.Mark.{Mark}
use Rattle.problem_core.specs.Layout.{Problem}
use Rattle.problem_core.specs.Changes.Begins.{AreExchanges}
use Rattle.problem_core.specs.Corners.{IsCorner, IsIn, SameMarks, Swap, exchanged, place}
use Rattle.problem_core.specs.Changes.Paths.{IsEndOf, IsSound, MaySwap}
use Rattle.cert_core.specs.Paths.{Path}
use Rattle.path_lines.specs.declared.spots.Spot.{Spot}
use Rattle.path_lines.specs.declared.spots.Step.{Step}
use Rattle.path_claims.specs.declared.way.WayStop.{WayStop}
use Rattle.path_claims.specs.declared.way.WayStop.TheVariants.{Fails, NoRoom, OutOfMemory}
use Rattle.path_lines.specs.Route.{IsRoute, corner_after, over_marks}
use Rattle.path_lines.specs.Tables.{AreSides, IsThere, line_count, mark_of, names_of, swap_of}
use Rattle.path_claims.specs.Ways.{AreNew, IsBegun, IsBroughtBy, IsBroughtByNone, IsMarkStop}
use Rattle.path_claims.specs.Ways.{IsRouteAt, IsShortPath}
use Rattle.path_levels.specs.declared.outline.Outline.{Outline}
use Rattle.path_claims.specs.declared.journey.PathCase.{PathCase}
use Rattle.path_claims.specs.declared.journey.Journey.{Journey}
use Rattle.path_claims.specs.declared.stations.Station.{Station}
use Rattle.path_levels.specs.Outlines.{IsOutline, IsSizedOutline}
use Rattle.path_claims.specs.Stations.{IsStation, IsStuckAt, IsUsableStation}

-- a path with as many different marks as there are rows, and its parts
pub record IsPathCase (case : PathCase) : Type 0 where
  pub outline_is : IsOutline case.p.now case.outline.now
  pub outline_sized : IsSizedOutline case.outline.now
  pub names_are : case.names.now ≡ names_of case.p.now
  pub wanted_are : AreSides case.p.now case.path.now.corner case.wanted.now
  pub rows : length case.path.now.corner ≡ length case.p.now.rows
  pub apart : AllPairs (λ m n. place m ≢ place n) case.path.now.corner
  pub count : IsShortPath case.path.now

-- ---- one mark is brought in

-- the exchange that brings the mark in, and the station after it
abbrev pub IsBroughtTo : PathCase → List Mark → Spot → (station next : Station) → Type 0
IsBroughtTo case at enter station next = IsBroughtBy case.p.now case.path.now.corner at enter
    (λ ms. IsStation case.p.now ms case.outline.now next) station.count next.count next.step

-- it does so at each corner with this station
abbrev pub Brings : PathCase → Spot → Station → Station → Type 0
Brings case enter station next = (at : List Mark) → IsStation case.p.now at case.outline.now station
    → IsBroughtTo case at enter station next

-- no mark gives way to it, or something that counts does not fit
abbrev pub BringsNone : PathCase → Spot → Station → WayStop → Type 0
BringsNone case enter station Fails = (at : List Mark) → IsStation case.p.now at case.outline.now station
    → IsBroughtByNone case.p.now case.path.now.corner at enter
BringsNone case enter station (NoRoom n) = (n ≡ station.count)
    × ((at : List Mark) → IsStation case.p.now at case.outline.now station
    → IsStuckAt case.p.now at station.step)
BringsNone case enter station OutOfMemory = Unit {0}

-- ---- all marks, one after the other

-- the journey has come to this corner, and this station is kept of it
abbrev pub IsJourneyAt : Problem → Path → Outline → (before rest : List Mark) → Journey → Type 0
IsJourneyAt p path outline before rest journey =
    IsRouteAt p path (λ at. IsStation p at outline journey.station) before rest journey.station.count
    journey.station.step journey.sides.items

-- the journey's station is usable, and there is an entry for each line
pub record IsUsableJourney (p : Problem) (outline : Outline) (journey : Journey) : Type 0 where
  pub station : IsUsableStation outline journey.station
  pub sides : length journey.sides.items ≡ line_count p

-- the mark is the next one of the path's first corner, and the route has come to it
pub record IsMarkNext (p : Problem) (path : Path) (outline : Outline) (before : List Mark) (m : Mark)
    (rest : List Mark) (journey : Journey) (enter : Spot) : Type 0 where
  pub mark : m ≡ mark_of p enter
  pub wanted : IsIn (place m) path.corner
  pub journey_is : IsJourneyAt p path outline before (m ∷ rest) journey

-- this is the journey once the mark is inside too, whenever the mark is the next one
abbrev pub HasOneMore : PathCase → Journey → Spot → Journey → Type 0
HasOneMore case journey enter next = (before : List Mark) (m : Mark) (rest : List Mark)
    → IsMarkNext case.p.now case.path.now case.outline.now before m rest journey enter
    → IsJourneyAt case.p.now case.path.now case.outline.now (before ++ m ∷ []) rest next

-- the route stops so at the mark, whenever the mark is the next one
abbrev pub StopsAt : PathCase → Journey → Spot → WayStop → Type 0
StopsAt case journey enter stop = (before : List Mark) (m : Mark) (rest : List Mark)
    → IsMarkNext case.p.now case.path.now case.outline.now before m rest journey enter
    → IsMarkStop case.p.now case.path.now stop

-- ---- along the swaps

-- these exchanges lead the route to the path's first corner
pub record LeadThere (p : Problem) (path : Path) (brings : List Swap) : Type 0 where
  pub goes_on : (more : List Swap) → more ≡ take (length more) path.swaps
      → AreExchanges p (corner_after p brings) more → IsRoute p path (brings ++ more)
  pub new : AreNew path.corner (over_marks p) brings
  pub corner : IsCorner p (corner_after p brings)
  pub same : SameMarks (corner_after p brings) path.corner

-- the route has come to the path's first corner, and has made these of its swaps
pub record IsOnRoute (p : Problem) (path : Path) (outline : Outline) (made : List Swap) (station : Station)
    : Type 0 where
  pub brings : List Swap
  pub lead : LeadThere p path brings
  pub there : IsThere p (corner_after p (brings ++ made))
  pub station_is : IsStation p (corner_after p (brings ++ made)) outline station
  pub count : length (brings ++ made) ≡ station.count
  pub begun : IsBegun (brings ++ made) station.step

-- the corner is no end, and the exchange by these places is of a mark that may enter or leave there
abbrev pub IsCalledThere : PathCase → Step → List Mark → Type 0
IsCalledThere case step at = (IsEndOf case.path.now.dual case.p.now at → ⊥)
    × MaySwap case.path.now.dual case.p.now at (swap_of case.p.now step)

-- each corner before the last is sound
abbrev pub AreSoundAhead : Bool → Problem → List Mark → List Swap → Type 0
AreSoundAhead dual p at [] = Unit {0}
AreSoundAhead dual p at (s ∷ swaps) = IsSound dual p at × AreSoundAhead dual p (exchanged s at) swaps
