-- The two slides of a sweep.
use Rattle.std.specs.Prelude.{◌≡◌, ◌⊎◌, ℕ, Bool, true, false, List, [], ◌∷◌, Option, Some, None, IfNone}
use Rattle.std.specs.Prelude.{IfSome}
use Rattle.std.specs.Option.{option_map}
use Rattle.frac_core.specs.Fraction.{Fraction}
use Rattle.problem_core.specs.declared.parts.Mark.{Mark}
use Rattle.problem_core.specs.Layout.{Problem}
use Rattle.corner_view.specs.Changes.{IsNear}
use Rattle.sweep_laws.specs.Fractions.{IsFittingDifference, IsNoMore}
use Rattle.sweep_laws.specs.Stops.{HasConstant}
use Rattle.sweep_laws.specs.Stretches.{Piece, Stretch}
use Rattle.sweep_param.specs.declared.joining.Slides.{Slides}
use Rattle.sweep_param.specs.declared.sweeps.Range.{Range}
use Rattle.sweep_run.specs.Slides.{HasSlid, IsSlideStop}
use Rattle.sweep_run.specs.Told.{stretches_of}
use Rattle.sweep_run.specs.Ways.{IsWay}
use Rattle.sweep_run.specs.declared.slides.Slid.{Slid}
use Rattle.sweep_run.specs.declared.stretches.SweepStop.{SweepStop}
use Rattle.sweep_run.specs.declared.stretches.SweepStop.TheVariants.{OutOfMemory}
use Rattle.sweep_run.specs.declared.ways.Way.{Way}

-- what is swept is the constant of a row of the problem, which may go to both ends
pub record IsRangeOf (p : Problem) (r : Range) : Type 0 where
  pub held : HasConstant p r.row r.present
  pub order : IsNoMore r.from r.to
  pub near : IsNear p r.row r.from × IsNear p r.row r.to
  pub wide : IsFittingDifference r.to r.from

-- the way to the greater end, shown from the lesser one on
abbrev pub IsUpwards : Range → Way → Type 0
IsUpwards r way = (way.up ≡ true) × IsWay r.row r.present r.from r.to way

-- the way to the lesser end, shown from the greater one on
abbrev pub IsDownwards : Range → Way → Type 0
IsDownwards r way = (way.up ≡ false) × IsWay r.row r.present r.to r.from way

-- the way up, where its end is above the present constant
abbrev pub IsWayUp : Range → Option Way → Type 0
IsWayUp r way = IfSome way (IsUpwards r) × IfNone way (IsNoMore r.to r.present)

-- the way down, where its end is below it
abbrev pub IsWayDown : Range → Option Way → Type 0
IsWayDown r way = IfSome way (IsDownwards r) × IfNone way (IsNoMore r.present r.from)

-- the slide on such a way came to this
abbrev pub IsSlidOn : Problem → (Way → Type 0) → Slid → Type 0
IsSlidOn p IsTheWay slid = (way : Way) × IsTheWay way × HasSlid p way slid

-- both slides from the present constant, where there is one
pub record AreSlides (p : Problem) (r : Range) (slides : Slides) : Type 0 where
  pub up : IfSome slides.up (IsSlidOn p (IsUpwards r))
  pub no_up : IfNone slides.up (IsNoMore r.to r.present)
  pub down : IfSome slides.down (IsSlidOn p (IsDownwards r))
  pub no_down : IfNone slides.down (IsNoMore r.present r.from)

-- a slide from these marks to one of the ends stops so, or memory is wanting
abbrev pub IsSlidesStop : Problem → List Mark → Range → SweepStop → Type 0
IsSlidesStop p kept r stop = (stop ≡ OutOfMemory)
    ⊎ (((way : Way) × IsUpwards r way × IsSlideStop p kept way r.budget stop)
    ⊎ ((way : Way) × IsDownwards r way × IsSlideStop p kept way r.budget stop))

-- what is behind a slide, where there was one
abbrev pub behind : Option Slid → List Stretch
behind None = []
behind (Some slid) = stretches_of slid.stretches.items

-- the constant reached and the values there, once it is shown
abbrev pub values_at : Option Slid → Option (Fraction × List (ℕ × Fraction))
values_at None = None
values_at (Some slid) = option_map (λ values. (slid.at.width, values)) slid.values

-- the piece of that constant alone
abbrev pub alone : Option (Fraction × List (ℕ × Fraction)) → List Stretch
alone None = []
alone (Some at) = Piece at.0 at.0 at.1 at.1 ∷ []

-- that of the first of the two that has values, where it is asked for
abbrev pub lone_of : Bool → Option (Fraction × List (ℕ × Fraction)) → Option (Fraction × List (ℕ × Fraction))
    → List Stretch
lone_of false down up = []
lone_of true None up = alone up
lone_of true (Some at) up = alone (Some at)
