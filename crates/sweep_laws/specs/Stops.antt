-- Why a slide stops: where the row's constant is, along which path, and what doesn't fit there.
use Rattle.std.specs.Prelude.{◌≡◌, ◌≢◌, ◌<◌, ◌≤◌, ◌⊎◌, ℕ, true, List, [], length, pos, Any}
use Rattle.frac_core.specs.Fraction.{Fraction, IsLowest}
use Rattle.problem_core.specs.declared.parts.Mark.{Mark}
use Rattle.problem_core.specs.declared.stops.What.{What}
use Rattle.problem_core.specs.Layout.{Problem}
use Rattle.problem_core.specs.Corners.{IsIn, Point, StandsAt, place}
use Rattle.problem_core.specs.Changes.Paths.{IsPath, last_marks}
use Rattle.problem_core.specs.Unfit.{IsUnfitWhat}
use Rattle.cert_core.specs.Paths.{Path}
use Rattle.cert_core.specs.Stops.{IsSpentPath}
use Rattle.corner_lines.specs.Shifts.{with_constant}
use Rattle.sweep_laws.specs.Fractions.{IsBetween, IsLess, IsTooLarge, difference}

-- the constant of the row
abbrev pub HasConstant : Problem → ℕ → Fraction → Type 0
HasConstant p row c = Any (λ r. (r.id ≡ row) × (r.constant ≡ c)) p.rows

-- the mark's value is 0 at the corner, with this constant
abbrev pub IsZeroAt : Problem → ℕ → List Mark → Mark → Fraction → Type 0
IsZeroAt p row at m w = (x : Point) × StandsAt (with_constant row w p) at x × (x.num (place m) ≡ pos 0)

-- it isn't
abbrev pub IsOtherAt : Problem → ℕ → List Mark → Mark → Fraction → Type 0
IsOtherAt p row at m w = (x : Point) × StandsAt (with_constant row w p) at x × (x.num (place m) ≢ pos 0)

-- an inside mark, 0 with one constant and not with another
pub record Turns (p : Problem) (row : ℕ) (at : List Mark) (m : Mark) (w : Fraction) : Type 0 where
  pub inside : IsIn (place m) at
  pub zero : IsZeroAt p row at m w
  pub other : (v : Fraction) × (0 < v.den) × IsOtherAt p row at m v

-- a mark is 0 between the present constant and the end, at one that doesn't fit, or that is too far from the
-- end
pub record IsUnfitTurn (p : Problem) (row : ℕ) (present end : Fraction) (at : List Mark) (m : Mark)
    : Type 0 where
  pub w : Fraction
  pub lowest : IsLowest w
  pub between : IsBetween present end w
  pub turns : Turns p row at m w
  pub large : IsTooLarge w ⊎ IsTooLarge (difference w end)

-- a slide's end: the greater end of the sweep, where it is above the present constant, or the lesser one,
-- where it is below
abbrev pub IsSlideEnd : Fraction → Fraction → Fraction → Fraction → Type 0
IsSlideEnd present from to end = ((end ≡ to) × IsLess present to) ⊎ ((end ≡ from) × IsLess from present)

-- where a slide's quantity may be told: at its end, at either end of the sweep, or at a constant between at
-- which a mark of the corner turns
abbrev pub IsToldAt : Problem → ℕ → Fraction → Fraction → Fraction → Fraction → List Mark → Fraction → Type 0
IsToldAt p row present from to end at w = (w ≡ end) ⊎ ((w ≡ from) ⊎ ((w ≡ to)
    ⊎ (IsBetween present end w × ((m : Mark) × Turns p row at m w))))

-- a slide from the kept marks has a path of just the budget's exchanges, whose last corner is no end
abbrev pub IsSlideSpent : Problem → ℕ → List Mark → Fraction → ℕ → Path → Type 0
IsSlideSpent p row kept end budget path = (path.dual ≡ true)
    × IsSpentPath true (with_constant row end p) (λ rest at. (rest ≡ []) × (at ≡ kept)) budget path

-- a lawful dual path, with this constant, from the kept marks, within the budget
pub record IsSlidePath (p : Problem) (row : ℕ) (kept : List Mark) (w : Fraction) (budget : ℕ) (path : Path)
    : Type 0 where
  pub kind : path.dual ≡ true
  pub begins : path.corner ≡ kept
  pub lawful : IsPath true (with_constant row w p) path.corner path.swaps
  pub few : length path.swaps ≤ budget

-- an attribute, a mark or a level doesn't fit there
pub record IsSlideUnfit (p : Problem) (row : ℕ) (kept : List Mark) (present from to end : Fraction)
    (budget : ℕ) (w : Fraction) (path : Path) (what : What) : Type 0 where
  pub leads : IsSlidePath p row kept w budget path
  pub told : IsToldAt p row present from to end (last_marks path.corner path.swaps) w
  pub unfit : IsUnfitWhat (with_constant row w p) (last_marks path.corner path.swaps) what

-- a mark turns at a constant that doesn't fit
pub record IsSlideFar (p : Problem) (row : ℕ) (kept : List Mark) (present end : Fraction) (budget : ℕ)
    (path : Path) (m : Mark) : Type 0 where
  pub leads : IsSlidePath p row kept end budget path
  pub turn : IsUnfitTurn p row present end (last_marks path.corner path.swaps) m
