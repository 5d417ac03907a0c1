-- An exchange at a corner, of two lines or of the two marks of one: its pivot, and the levels' rows after it.
use Rattle.std.specs.Prelude.{◌≡◌, ◌≢◌, ◌⊎◌, ℕ, ◌<◌, ◌^◌, true, false, List, length, ℤ, pos, ◌*ℤ◌, ◌<ℤ◌}
use Rattle.std.specs.Prelude.{neg_ℤ, set, unsigned_abs, All}
use Rattle.frac_core.specs.Fraction.{Fraction, IsFitting}
use Rattle.problem_core.specs.declared.parts.RowName.{RowName}
use Rattle.problem_core.specs.declared.parts.Mark.{Mark}
use Rattle.problem_core.specs.Layout.{Problem, lines}
use Rattle.problem_core.specs.Corners.{IsExchange}
use Rattle.corner_lines.specs.LineEquations.{IsOutsideLine}
use Rattle.corner_lines.specs.Levels.LevelRows.{IsLevelMultiple, IsPivot}
use Rattle.corner_lines.specs.Levels.LevelCosts.{HasDeviation}
use Rattle.path_lines.specs.declared.exchange.Pivot.{Pivot}
use Rattle.path_lines.specs.declared.numbers.Wide.{Wide}
use Rattle.path_lines.specs.declared.spots.Step.{Step}
use Rattle.path_lines.specs.declared.table.Sum.{Sum}
use Rattle.path_lines.specs.Numbers.{AreFitting}
use Rattle.path_lines.specs.Exchanges.Pivots.{IsEnteredBy, IsPivotAt, next_marks}
use Rattle.path_lines.specs.Tables.{IsThere, line_count, name_at, numbers_of, swap_of}
use Rattle.path_levels.specs.declared.outline.Outline.{Outline}
use Rattle.path_levels.specs.declared.levels_after.LineExchange.{LineExchange}
use Rattle.path_levels.specs.declared.sums.LevelSum.{LevelSum}
use Rattle.path_levels.specs.Kept.{WithLines}
use Rattle.path_levels.specs.Outlines.{IsOutline, number_at}
use Rattle.path_levels.specs.Levels.{IsSumAt}

-- the pivot has a number for each of so many lines, and its numbers fit
pub record IsSizedPivot (count : ℕ) (pivot : Pivot) : Type 0 where
  pub enter_at : pivot.step.enter.at < count
  pub leave_at : pivot.step.leave.at < count
  pub turn : pivot.is_turn ≡ true → pivot.step.enter.at ≡ pivot.step.leave.at
  pub other : pivot.is_turn ≡ false → pivot.step.enter.at ≢ pivot.step.leave.at
  pub count_is : length pivot.by.items ≡ count
  pub above : pos 0 <ℤ pivot.size
  pub fits : AreFitting pivot.size pivot.by.items
  pub times_fit : IsFitting pivot.times

-- the line's own equation, with its own number in its place
pub record IsTurnedFrom (leaving : Sum) (step : Step) (pivot : Pivot) : Type 0 where
  pub step_is : pivot.step ≡ step
  pub turn : pivot.is_turn ≡ true
  pub size_is : pivot.size ≡ leaving.own
  pub by_is : pivot.by.items ≡ set leaving.by.items step.enter.at (neg_ℤ leaving.own)
  pub value_is : pivot.value ≡ leaving.value
  pub times_is : pivot.times ≡ leaving.own

-- the lines cancel by its numbers, and the entering line's deviation after the exchange follows from its
-- value
pub record IsExchangePivot (p : Problem) (at : List Mark) (pivot : Pivot) : Type 0 where
  pub there : IsThere p at
  pub sized : IsSizedPivot (line_count p) pivot
  pub exchange : IsExchange p at (swap_of p pivot.step)
  pub pivot_is : IsPivot p at (name_at p pivot.step.enter.at) (name_at p pivot.step.leave.at)
      (unsigned_abs pivot.size) (numbers_of (lines p) pivot.by.items)
  pub value_den : 0 < pivot.value.den
  pub deviation_is : (enters : Fraction) → IsEnteredBy pivot enters
      → HasDeviation p (next_marks p pivot at) (name_at p pivot.step.enter.at) enters
  pub of_lines : pivot.is_turn ≡ false → IsPivotAt p at pivot

-- it is the pivot of the exchange, whenever that can be made
pub record IsPivotFor (exchange : LineExchange) (pivot : Pivot) : Type 0 where
  pub step_is : pivot.step ≡ exchange.step
  pub sized : IsSizedPivot (length exchange.corner.lines.now) pivot
  pub gives : WithLines exchange.corner.lines.now
      (λ p at. IsExchange p at (swap_of p exchange.step) → IsExchangePivot p at pivot)

-- ---- a level's row before it is divided

-- there is a number for each of so many lines, and none of them is large
pub record IsWideLevel (count : ℕ) (unit : ℤ) (wide : Wide) : Type 0 where
  pub count_is : length wide.by.items ≡ count
  pub above : pos 0 <ℤ wide.own
  pub scale : unsigned_abs (wide.own *ℤ unit) < 2 ^ 84
  pub small : All (λ z. unsigned_abs z < 2 ^ 96) wide.by.items

-- it is a multiple of the level's row at the corner, with 0 at the lines inside
pub record IsMultipleAt (p : Problem) (at : List Mark) (level : ℕ) (unit : ℤ) (wide : Wide) : Type 0 where
  pub by : RowName → ℤ
  pub multiple : IsLevelMultiple p at level (unsigned_abs unit) (unsigned_abs wide.own) by
  pub outside : All (λ l. IsOutsideLine at l.name → by l.name ≡ numbers_of (lines p) wide.by.items l.name)
      (lines p)
  pub inside : All (λ l. IsOutsideLine at l.name ⊎ (numbers_of (lines p) wide.by.items l.name ≡ pos 0))
      (lines p)

-- after the exchange it is a multiple of the row of the level at a place, whenever the sum is that row before
abbrev pub IsNextMultiple : Outline → Pivot → (place : ℕ) → LevelSum → Wide → Type 0
IsNextMultiple outline pivot place sum wide = (p : Problem) (at : List Mark) → IsOutline p outline
    → IsExchangePivot p at pivot → IsSumAt p at outline place sum
    → IsMultipleAt p (next_marks p pivot at) (number_at outline.levels.items place) sum.unit wide
