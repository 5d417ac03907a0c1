-- The costs of outside marks at the levels of a corner, by rows that are not divided.
use Rattle.std.specs.Prelude.{◌≡◌, ℕ, ◌<◌, List, length, get_or, ℤ, unsigned_abs}
use Rattle.problem_core.specs.declared.parts.Side.{Side}
use Rattle.problem_core.specs.declared.parts.Mark.{Mark}
use Rattle.problem_core.specs.Layout.{Problem}
use Rattle.corner_laws.specs.Units.{IsLevelUnit}
use Rattle.path_lines.specs.declared.exchange.Pivot.{Pivot}
use Rattle.path_lines.specs.Numbers.{number_at as number_of}
use Rattle.path_lines.specs.Exchanges.Pivots.{next_marks}
use Rattle.path_levels.specs.declared.columns_after.WideLevel.{WideLevel}
use Rattle.path_levels.specs.declared.outline.Outline.{Outline}
use Rattle.path_levels.specs.declared.outline.LineFacts.{LineFacts}
use Rattle.path_levels.specs.declared.sums.LevelSum.{LevelSum}
use Rattle.path_levels.specs.Costs.{IsNegativeFirst, cost_of}
use Rattle.path_levels.specs.Outlines.{IsOutline, number_at}
use Rattle.path_levels.specs.Levels.{AreLevels}
use Rattle.path_levels.specs.Exchanges.Pivots.{IsExchangePivot, IsMultipleAt, IsWideLevel}

-- there is a number for each of so many lines, and none of them is large
abbrev pub IsSizedWide : ℕ → WideLevel → Type 0
IsSizedWide count level = IsWideLevel count level.unit level.wide

-- the level's row is sized, and has a number for the line at the place
abbrev pub HasWideLine : ℕ → WideLevel → Type 0
HasWideLine at level = (at < length level.wide.by.items) × IsSizedWide (length level.wide.by.items) level

-- by the row of the level at `place`, for the line at `at`
abbrev pub wide_cost : Side → LineFacts → (at place : ℕ) → WideLevel → ℤ
wide_cost side facts at place level =
    cost_of side place (unsigned_abs level.unit) (unsigned_abs level.wide.own) facts
    (number_of level.wide.by.items at)

-- the first of the reduced costs of a mark of the line that isn't 0 is below 0
abbrev pub IsWideNegative : LineFacts → ℕ → List WideLevel → WideLevel → Type 0
IsWideNegative facts at next d =
    (side : Side) × IsNegativeFirst (length next) (λ k. wide_cost side facts at k (get_or next k d))

-- with its unit, it is a multiple of the level's row at the corner
pub record IsWideAt (p : Problem) (at : List Mark) (number : ℕ) (level : WideLevel) : Type 0 where
  pub unit_is : IsLevelUnit p number (unsigned_abs level.unit)
  pub row : IsMultipleAt p at number level.unit level.wide

-- each level of the outline has such a multiple
pub record AreWideAt (p : Problem) (at : List Mark) (outline : Outline) (next : List WideLevel) : Type 0 where
  pub count : length next ≡ length outline.levels.items
  pub each : (k : ℕ) (d : WideLevel) → k < length outline.levels.items
      → IsWideAt p at (number_at outline.levels.items k) (get_or next k d)

-- after the exchange they are multiples of the levels' rows, whenever the levels are kept so before
abbrev pub AreNextWide : Outline → Pivot → List LevelSum → List WideLevel → Type 0
AreNextWide outline pivot levels next = (p : Problem) (at : List Mark) → IsExchangePivot p at pivot
    → IsOutline p outline → AreLevels p at outline levels → AreWideAt p (next_marks p pivot at) outline next
