-- Which parts of a level's row have to fit after an exchange, by places.
use Rattle.std.specs.Prelude.{◌≡◌, ℕ, ◌<◌, cond, nat_eq, List, length, get_or}
use Rattle.std.specs.Prelude.{ℤ, pos, ◌*ℤ◌, ◌<ℤ◌, All, Option, None, Some}
use Rattle.frac_core.specs.Fraction.{Fraction, IsFitting, IsKept, IsRatio, IsUnfitRatio, sum_den, sum_num}
use Rattle.problem_core.specs.declared.parts.Side.{Side}
use Rattle.path_lines.specs.declared.exchange.Pivot.{Pivot}
use Rattle.path_lines.specs.Stops.{SumStop}
use Rattle.frac_core.specs.Stops.{IsRefused}
use Rattle.path_lines.specs.declared.table.Inside.{Inside}
use Rattle.path_lines.specs.Numbers.{number_at}
use Rattle.path_levels.specs.declared.outline.Outline.{Outline}
use Rattle.path_levels.specs.declared.outline.LineFacts.{LineFacts}
use Rattle.path_levels.specs.declared.sums.LevelSum.{LevelSum}
use Rattle.path_levels.specs.Shares.{reduced_of, shown_of}

-- which mark of the line is inside, if any
abbrev pub side_of : Option Inside → Option Side
side_of None = None
side_of (Some inside) = Some inside.side

-- which mark of the line at the place is inside after the exchange
abbrev pub side_of_after : List (Option Inside) → Pivot → ℕ → Option Side
side_of_after lines pivot at = cond (nat_eq at pivot.step.enter.at) (Some pivot.step.enter.side)
    (cond (nat_eq at pivot.step.leave.at) None (side_of (get_or lines at None)))

-- both reduced costs fit, if the line is of the level
abbrev pub IsFitLine : LineFacts → Option Side → ℕ → LevelSum → ℤ → Type 0
IsFitLine facts inside place sum number = facts.level ≡ place → (side : Side)
    → IsFitting (reduced_of facts side place sum (shown_of facts inside place sum number))

-- the parts are above 0 and fit, and there are so many numbers
pub record IsMadeLevel (count : ℕ) (sum : LevelSum) : Type 0 where
  pub count_is : length sum.by.items ≡ count
  pub unit_above : pos 0 <ℤ sum.unit
  pub unit_fits : IsFitting sum.unit
  pub own_above : pos 0 <ℤ sum.own
  pub own_fits : IsFitting sum.own
  pub fits : All IsFitting sum.by.items

-- the scale of the level's row fits, and both reduced costs of each line of the level
pub record IsFitLevel (outline : Outline) (lines : List (Option Inside)) (pivot : Pivot) (place : ℕ)
    (sum : LevelSum) : Type 0 where
  pub scale : IsFitting (sum.own *ℤ sum.unit)
  pub each : (k : ℕ) (d : LineFacts) → k < length outline.lines.items
      → IsFitLine (get_or outline.lines.items k d) (side_of_after lines pivot k) place sum
      (number_at sum.by.items k)

-- ---- the cost

-- the level's cost after the exchange, as a ratio: its numerator
abbrev pub moved_num : ℤ → Pivot → LevelSum → ℤ
moved_num n pivot sum = sum_num sum.cost (n *ℤ pivot.times) ((sum.own *ℤ sum.unit) *ℤ pivot.size) pivot.value

-- and its denominator
abbrev pub moved_den : Pivot → LevelSum → ℤ
moved_den pivot sum = sum_den sum.cost ((sum.own *ℤ sum.unit) *ℤ pivot.size) pivot.value

-- the moved cost is the cost plus the entering line's deviation times `n` over the scale
pub record IsMovedCost (n : ℤ) (pivot : Pivot) (sum : LevelSum) (cost : Fraction) : Type 0 where
  pub kept : IsKept cost
  pub ratio : IsRatio cost (moved_num n pivot sum) (moved_den pivot sum)

-- if the number fits, the cost does not
abbrev pub IsCostStop : ℤ → Pivot → LevelSum → SumStop → Type 0
IsCostStop n pivot sum stop = IsRefused stop
    × (IsFitting n → IsUnfitRatio (moved_num n pivot sum) (moved_den pivot sum))
