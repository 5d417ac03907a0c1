-- The way of a slide, and what moves along it.
use Rattle.std.specs.Prelude.{◌≡◌, ◌≢◌, ◌⊎◌, Bool, true, false, ℕ, ◌<◌, List, ℤ, pos, ◌*ℤ◌, neg_ℤ, ◌≤ℤ◌}
use Rattle.std.specs.Prelude.{◌<ℤ◌, All, Any, Option, Some, IfSome, IfNone}
use Rattle.frac_core.specs.Fraction.{Fraction, IsFitting, IsKept, IsRatio, sum_den, sum_num}
use Rattle.frac_core.specs.declared.memory.Stop.{Stop}
use Rattle.frac_core.specs.declared.memory.Stop.TheVariants.{Refused, OutOfMemory}
use Rattle.problem_core.specs.declared.parts.Mark.{Mark}
use Rattle.problem_core.specs.declared.parts.RowName.TheVariants.{Held}
use Rattle.problem_core.specs.declared.parts.RowName.{RowName}
use Rattle.problem_core.specs.declared.parts.Side.{Side}
use Rattle.problem_core.specs.declared.parts.Side.TheVariants.{Over}
use Rattle.problem_core.specs.declared.stops.What.{What}
use Rattle.problem_core.specs.declared.stops.What.TheVariants.{Attr, Mark as MarkOf, Level as LevelOf}
use Rattle.problem_core.specs.Layout.{Problem}
use Rattle.problem_core.specs.Kept.{IsWhole}
use Rattle.problem_core.specs.Unfit.{IsUnfitWhat}
use Rattle.problem_core.specs.Corners.{attr_column, place}
use Rattle.corner_view.specs.Seen.{CornerView, HasValueAt}
use Rattle.corner_view.specs.Changes.{IsNear}
use Rattle.corner_ends.specs.Runs.{IsBestEnd}
use Rattle.corner_lines.specs.Shifts.{with_constant}
use Rattle.dual_run.specs.Leaving.{IsLow}
use Rattle.sweep_laws.specs.Fractions.{IsLess, IsNoMore, IsTooLarge, difference}
use Rattle.sweep_laws.specs.Stops.{HasConstant, IsZeroAt}
use Rattle.sweep_run.specs.declared.rates.Crossing.{Crossing}
use Rattle.sweep_run.specs.declared.rates.Rate.{Rate}
use Rattle.sweep_run.specs.declared.ways.Place.{Place}
use Rattle.sweep_run.specs.declared.ways.Way.{Way}

-- ---- places

-- the one constant comes before the other on the way up, or down
abbrev pub ComesBefore : Bool → Fraction → Fraction → Type 0
ComesBefore true a b = IsLess a b
ComesBefore false a b = IsLess b a

-- or is the same
abbrev pub IsNoLater : Bool → Fraction → Fraction → Type 0
IsNoLater true a b = IsNoMore a b
IsNoLater false a b = IsNoMore b a

-- how far the one is before the other
abbrev pub far_back : Bool → Fraction → Fraction → Fraction
far_back true width end = difference end width
far_back false width end = difference width end

-- the place's distance is that of its constant from the end
pub record IsPlace (up : Bool) (end : Fraction) (place : Place) : Type 0 where
  pub no_later : IsNoLater up place.width end
  pub width : IsKept place.width
  pub back : IsKept place.back
  pub is : IsRatio place.back (far_back up place.width end).num (pos (far_back up place.width end).den)

-- the way from the present constant to the end, shown from `near` on
pub record IsWay (row : ℕ) (present near end : Fraction) (way : Way) : Type 0 where
  pub row_is : way.row ≡ row
  pub end_is : way.end ≡ end
  pub forward : ComesBefore way.up present end
  pub first : IsPlace way.up end way.first
  pub first_is : way.first.width ≡ present
  pub near_place : IsPlace way.up end way.near
  pub near_is : way.near.width ≡ near

-- the parts of a way agree
abbrev pub IsAnyWay : Way → Type 0
IsAnyWay way = IsWay way.row way.first.width way.near.width way.end way

-- it is a way of the problem's row, whose constant is the present one
pub record IsWayOf (p : Problem) (way : Way) : Type 0 where
  pub held : HasConstant p way.row way.first.width
  pub is : IsAnyWay way
  pub end_near : IsNear p way.row way.end

-- the problem where the row has this constant
abbrev pub there : Problem → Way → Fraction → Problem
there p way w = with_constant way.row w p

-- ---- what is asked for

-- the corner is that of the slide's end
pub record IsAtEnd (way : Way) (c : CornerView) : Type 0 where
  pub whole : IsWhole c.problem
  pub held : Any (λ r. r.id ≡ way.row) c.problem.rows
  pub constant : All (λ r. r.id ≡ way.row → r.constant ≡ way.end) c.problem.rows
  pub parts : IsAnyWay way

-- a place on the way at which these marks are a best end
pub record IsReached (p : Problem) (way : Way) (at : List Mark) (place : Place) : Type 0 where
  pub is : IsPlace way.up way.end place
  pub on_way : IsNoLater way.up way.first.width place.width
  pub best : IsBestEnd (there p way place.width) at

-- there is one
abbrev pub HasReached : Problem → Way → List Mark → Type 0
HasReached p way at = (place : Place) × IsReached p way at place

-- ---- rates

-- the row's mark on this side
abbrev pub own : ℕ → Side → Mark
own row side = record { row = Held row; side = side }

-- an attribute, or a mark but for the row's over mark
abbrev pub IsOther : ℕ → What → Type 0
IsOther row (Attr attr) = Unit {0}
IsOther row (MarkOf m) = m ≢ own row Over
IsOther row (LevelOf level) = ⊥

-- the column of what has a rate
abbrev pub column_of : What → ℕ → Type 0
column_of (Attr attr) c = c ≡ attr_column attr
column_of (MarkOf m) c = c ≡ place m
column_of (LevelOf level) c = ⊥

-- with these marks inside, what has the value f with the end's constant has so much more with each other one
-- as that is back
pub record IsBackRate (p : Problem) (at : List Mark) (way : Way) (what : What) (rate : Rate) : Type 0 where
  pub above : pos 0 <ℤ rate.d
  pub small_n : IsFitting rate.n
  pub small_d : IsFitting rate.d
  pub moves : (c : ℕ) (f w value : Fraction) → column_of what c → 0 < f.den → 0 < w.den
      → HasValueAt (there p way way.end) at c f
      → IsRatio value (sum_num f rate.n rate.d (far_back way.up w way.end))
      (sum_den f rate.d (far_back way.up w way.end))
      → HasValueAt (there p way w) at c value

-- how much grows so far back what grows so much with the constant
abbrev pub backwards : Bool → ℤ → ℤ
backwards true n = neg_ℤ n
backwards false n = n

-- ---- crossings

-- the constant is so far before the end as the crossing says
abbrev pub IsAtCrossing : Way → Crossing → Fraction → Type 0
IsAtCrossing way x w = x.p *ℤ pos (far_back way.up w way.end).den ≡ (far_back way.up w way.end).num *ℤ x.q

-- the inside mark is negative at the end, and with the constant at this distance before it is 0
pub record IsCrossing (p : Problem) (at : List Mark) (way : Way) (x : Crossing) : Type 0 where
  pub above_p : pos 0 <ℤ x.p
  pub above_q : pos 0 <ℤ x.q
  pub low : IsLow (there p way way.end) at x.mark
  pub zero : (w : Fraction) → 0 < w.den → IsAtCrossing way x w → IsZeroAt p way.row at x.mark w

-- the first is at least as far before the end
abbrev pub IsAsFar : Crossing → Crossing → Type 0
IsAsFar x y = (y.p *ℤ x.q) ≤ℤ (x.p *ℤ y.q)

-- the farther one of the two
pub record IsFarther (a b f : Crossing) : Type 0 where
  pub one : (f ≡ a) ⊎ (f ≡ b)
  pub first : IsAsFar f a
  pub second : IsAsFar f b

-- the mark's crossing is no farther before the end
abbrev pub HasCrossingWithin : Problem → List Mark → Way → Crossing → Mark → Type 0
HasCrossingWithin p at way x m = (y : Crossing) × IsCrossing p at way y × (y.mark ≡ m) × IsAsFar x y

-- of all marks that are negative at the end the one that is 0 first
pub record IsSoonest (p : Problem) (at : List Mark) (way : Way) (x : Crossing) : Type 0 where
  pub crossing : IsCrossing p at way x
  pub first : (m : Mark) → IsLow (there p way way.end) at m → HasCrossingWithin p at way x m

-- what was found stays, or a crossing of this line is farther; and no mark of the line crosses farther
pub record IsBetterOf (c : CornerView) (way : Way) (found : Option Crossing) (line : RowName)
    (best : Option Crossing) : Type 0 where
  pub kept : IfSome found (λ a. IfSome best (λ f. IsAsFar f a) × (IfNone best ⊥))
  pub new : IfSome best (λ f. (found ≡ Some f) ⊎ IsCrossing c.problem c.marks way f)
  pub first : (m : Mark) → IsLow (there c.problem way way.end) c.marks m → m.row ≡ line
      → IfSome best (λ f. HasCrossingWithin c.problem c.marks way f m) × (IfNone best ⊥)

-- the constant at that distance, or the distance, doesn't fit
abbrev pub IsUnfitCrossing : Way → Crossing → Type 0
IsUnfitCrossing way x = (w : Fraction) → 0 < w.den → IsAtCrossing way x w
    → IsTooLarge w ⊎ IsTooLarge (far_back way.up w way.end)

-- the place of the crossing
pub record IsPlaceOf (way : Way) (x : Crossing) (place : Place) : Type 0 where
  pub is : IsPlace way.up way.end place
  pub at : IsAtCrossing way x place.width

-- ---- what is answered

-- the attribute's value at the place doesn't fit
abbrev pub IsUnfitThere : CornerView → Way → Place → ℕ → Type 0
IsUnfitThere c way place attr = IsUnfitWhat (there c.problem way place.width) c.marks (Attr attr)

-- the attribute that is told doesn't, or memory is wanting
abbrev pub IsUnfitStopThere : CornerView → Way → Place → Stop ℕ → Type 0
IsUnfitStopThere c way place (Refused attr) = IsUnfitThere c way place attr
IsUnfitStopThere c way place OutOfMemory = Unit {0}

-- what the end is above the present constant, or above `near`, doesn't fit, or the other way round
abbrev pub IsUnfitWay : Fraction → Fraction → Fraction → Type 0
IsUnfitWay present near end = (up : Bool) × ComesBefore up present end
    × (IsTooLarge (far_back up present end) ⊎ IsTooLarge (far_back up near end))

-- the constant so far before the end doesn't fit
abbrev pub IsUnfitBefore : Way → Fraction → Type 0
IsUnfitBefore way back = (w : Fraction) → IsKept w
    → IsRatio back (far_back way.up w way.end).num (pos (far_back way.up w way.end).den) → ⊥
