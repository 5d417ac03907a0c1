-- Sums of any quantity at a corner, and after an exchange.
use Rattle.std.specs.Prelude.{◌≡◌, ◌⊎◌, ◌≢◌, ℕ, ◌<◌, ◌≤◌, List, length, ℤ, pos, ◌*ℤ◌, ◌<ℤ◌}
use Rattle.std.specs.Prelude.{unsigned_abs, Option, None, Some}
use Rattle.frac_core.specs.Fraction.{Fraction, IsFitting, IsKept, sum_den, sum_num}
use Rattle.problem_core.specs.declared.parts.Side.{Side}
use Rattle.problem_core.specs.declared.parts.Mark.{Mark}
use Rattle.problem_core.specs.declared.parts.RowName.{RowName}
use Rattle.problem_core.specs.declared.stops.What.TheVariants.{Mark as MarkOf}
use Rattle.problem_core.specs.Layout.{Problem, lines}
use Rattle.problem_core.specs.Corners.{IsIn, place_of}
use Rattle.problem_core.specs.Unfit.{HasNoWriting, IsUnfitWhat}
use Rattle.corner_lines.specs.LineEquations.{IsLineEquation, IsLineSum, IsOutsideLine, deviation}
use Rattle.path_lines.specs.declared.exchange.Pivot.{Pivot}
use Rattle.path_lines.specs.declared.table.Sum.{Sum}
use Rattle.path_lines.specs.declared.table.Inside.{Inside}
use Rattle.path_lines.specs.Numbers.{number_at}
use Rattle.path_lines.specs.Exchanges.Pivots.{next_marks}
use Rattle.path_lines.specs.Tables.{IsSized, IsUp, line_count, name_at, numbers_of}
use Rattle.path_fits.specs.declared.last.after.Mover.{Mover}
use Rattle.path_levels.specs.Exchanges.Pivots.{IsExchangePivot}

-- ---- which mark is inside

-- the line is outside, or its mark of this side is inside
abbrev pub IsSideAt : List Mark → RowName → Option Side → Type 0
IsSideAt at name None = IsOutsideLine at name
IsSideAt at name (Some side) = IsIn (place_of name side) at

-- ---- any quantity

-- the sum is the equation of the quantity
pub record IsQuantitySum (p : Problem) (at : List Mark) (quantity : (ℕ → ℤ) → ℤ) (sum : Sum) : Type 0 where
  pub sized : IsSized (line_count p) sum
  pub equation : IsLineEquation p at quantity (unsigned_abs sum.own)
      (numbers_of (lines p) sum.by.items) sum.value.num sum.value.den

-- if before the exchange the sum is the quantity's, after it `next` is
abbrev pub IsSumAfter : Pivot → Sum → Sum → Type 0
IsSumAfter pivot sum next = (p : Problem) (at : List Mark) (quantity : (ℕ → ℤ) → ℤ)
    → IsExchangePivot p at pivot → IsQuantitySum p at quantity sum
    → IsQuantitySum p (next_marks p pivot at) quantity next

-- the quantity does not fit there
abbrev pub IsUnfitAfter : Pivot → Sum → Type 0
IsUnfitAfter pivot sum = (p : Problem) (at : List Mark) (quantity : (ℕ → ℤ) → ℤ)
    → IsExchangePivot p at pivot → IsQuantitySum p at quantity sum
    → HasNoWriting p (next_marks p pivot at) quantity

-- ---- values

-- the value of the sum after the exchange, as a ratio: its numerator
abbrev pub next_num : Pivot → Sum → ℤ
next_num pivot sum = sum_num sum.value (number_at sum.by.items pivot.step.enter.at *ℤ pivot.times)
    (sum.own *ℤ pivot.size) pivot.value

-- and its denominator
abbrev pub next_den : Pivot → Sum → ℤ
next_den pivot sum = sum_den sum.value (sum.own *ℤ pivot.size) pivot.value

-- `own` times the line's deviation has this number at the entering line, and this value
pub record IsMoverOf (p : Problem) (at : List Mark) (name enter : RowName) (mover : Mover) : Type 0 where
  pub by : RowName → ℤ
  pub sum : IsLineSum p at (deviation name) (unsigned_abs mover.own) by mover.value.num mover.value.den
  pub number : by enter ≡ mover.number

-- the mover's own number is above 0, and both of its numbers fit
pub record IsSizedMover (mover : Mover) : Type 0 where
  pub above : pos 0 <ℤ mover.own
  pub own_fits : IsFitting mover.own
  pub number_fits : IsFitting mover.number

-- no judged line's inside mark has a negative value after the exchange
abbrev pub AreUpAfter : Problem → List Mark → Pivot → (judged rows : ℕ) → Type 0
AreUpAfter p at pivot judged rows = (k : ℕ) → k < line_count p → (k < judged) ⊎ (rows ≤ k)
    → IsUp p (next_marks p pivot at) (name_at p k)

-- ---- the making of sums

-- the same numbers with this value
pub record IsCopy (sum : Sum) (value : Fraction) (next : Sum) : Type 0 where
  pub own : next.own ≡ sum.own
  pub by : next.by.items ≡ sum.by.items
  pub value_is : next.value ≡ value

-- 1 at the place, and 0 elsewhere
pub record IsUnitList (count at : ℕ) (by : List ℤ) : Type 0 where
  pub count_is : length by ≡ count
  pub here : at < count → number_at by at ≡ pos 1
  pub others : (k : ℕ) → k < count → k ≢ at → number_at by k ≡ pos 0

-- a line by itself plus this value
pub record IsUnitSum (count at : ℕ) (value : Fraction) (sum : Sum) : Type 0 where
  pub own : sum.own ≡ pos 1
  pub by : IsUnitList count at sum.by.items
  pub value_is : sum.value ≡ value

-- the line is outside, or the value of its sum is in lowest terms and fits
abbrev pub HasFittingValue : Option Inside → Type 0
HasFittingValue None = Unit {0}
HasFittingValue (Some inside) = IsKept inside.sum.value

-- the line's inside mark does not fit
abbrev pub IsUnfitLineAt : Problem → List Mark → RowName → Type 0
IsUnfitLineAt p at name = (side : Side) × IsUnfitWhat p at (MarkOf (record { row = name; side = side }))
