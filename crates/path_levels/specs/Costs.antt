-- The costs of outside marks at the levels of a corner, by places.
use Rattle.std.specs.Prelude.{◌≡◌, ℕ, ◌*◌, ◌^◌, ◌<◌, cond, nat_eq, List, length, ℤ, pos}
use Rattle.std.specs.Prelude.{◌+ℤ◌, ◌-ℤ◌, ◌<ℤ◌, unsigned_abs}
use Rattle.problem_core.specs.declared.parts.Side.{Side}
use Rattle.problem_core.specs.declared.parts.Side.TheVariants.{Under, Over}
use Rattle.problem_core.specs.declared.parts.Mark.{Mark}
use Rattle.problem_core.specs.Layout.{Problem}
use Rattle.problem_core.specs.Corners.{HasNegativeColumn}
use Rattle.path_lines.specs.Numbers.{number_at}
use Rattle.path_lines.specs.Tables.{name_at}
use Rattle.path_levels.specs.declared.outline.LineFacts.{LineFacts}
use Rattle.path_levels.specs.declared.sums.LevelSum.{LevelSum}
use Rattle.path_levels.specs.declared.columns.Units.{Units}
use Rattle.path_levels.specs.Shares.{share_of}
use Rattle.path_levels.specs.Levels.{IsSizedLevel}

-- the count of a deviation on this side at the level at a place, if the level's cost is taken `own * unit`
-- times
abbrev pub counted : Side → (place unit own : ℕ) → LineFacts → ℕ
counted side place unit own facts = cond (nat_eq facts.level place) (own * share_of side unit facts) 0

-- the reduced cost of an outside mark with this count, whose line has the number y
abbrev pub reduced_by : Side → ℕ → ℤ → ℤ
reduced_by Under count y = pos count -ℤ y
reduced_by Over count y = pos count +ℤ y

-- the reduced cost of the line's outside mark on this side, at the level at a place
abbrev pub cost_of : Side → (place unit own : ℕ) → LineFacts → ℤ → ℤ
cost_of side place unit own facts y = reduced_by side (counted side place unit own facts) y

-- by the row of the level at `place`, for the line at `at`
abbrev pub cost_in : Side → LineFacts → (at place : ℕ) → LevelSum → ℤ
cost_in side facts at place sum =
    cost_of side place (unsigned_abs sum.unit) (unsigned_abs sum.own) facts (number_at sum.by.items at)

-- the first of so many numbers that isn't 0 is below 0
pub record IsNegativeFirst (count : ℕ) (costs : ℕ → ℤ) : Type 0 where
  pub place : ℕ
  pub within : place < count
  pub before : (k : ℕ) → k < place → costs k ≡ pos 0
  pub below : costs place <ℤ pos 0

-- ---- sizes

-- before it is divided, after an exchange, a row's scale is below this in size
abbrev pub AreSmall : Units → Type 0
AreSmall units = units.own * unsigned_abs units.unit < 2 ^ 84

-- the level's row is sized, and has a number for the line at the place
abbrev pub HasLine : ℕ → LevelSum → Type 0
HasLine at sum = (at < length sum.by.items) × IsSizedLevel (length sum.by.items) sum

-- a mark of the line at the place has a negative column
abbrev pub HasNegative : Problem → List Mark → ℕ → Type 0
HasNegative p marks at =
    (side : Side) × HasNegativeColumn p marks (record { row = name_at p at; side = side })
