-- What an exchange makes of the row of a level.
use Rattle.std.specs.Prelude.{◌≡◌, ℕ, ◌-◌, cond, nat_eq, ℤ, pos, neg_ℤ, ◌+ℤ◌, ◌-ℤ◌, ◌*ℤ◌}
use Rattle.std.specs.Prelude.{unsigned_abs, Some, None}
use Rattle.std.specs.declared.option.Option.{Option}
use Rattle.frac_core.specs.Fraction.{Fraction, IsRatio, sum_den, sum_num}
use Rattle.row_core.specs.Rows.{combination}
use Rattle.problem_core.specs.declared.limits.TheConstants.{REQUIRED}
use Rattle.problem_core.specs.declared.parts.Level.TheVariants.{Priority as PriorityLevel}
use Rattle.problem_core.specs.declared.parts.Side.{Side}
use Rattle.problem_core.specs.declared.parts.Side.TheVariants.{Over}
use Rattle.problem_core.specs.declared.stops.What.TheVariants.{Level as LevelOf}
use Rattle.problem_core.specs.declared.stops.Quantity.TheVariants.{Plain}
use Rattle.problem_core.specs.Changes.Stops.{TableStop}
use Rattle.frac_core.specs.declared.memory.Stop.TheVariants.{Refused}
use Rattle.corner_lines.specs.LineEquations.{sign_of}
use Rattle.corner_exchange.specs.declared.exchange.Pivot.{Pivot}
use Rattle.corner_writings.specs.declared.levels.Pair.{Pair}
use Rattle.corner_table.specs.Tables.{Lists, entry, priority_at, row_at, slot_at, standing_at}
use Rattle.corner_table.specs.Kept.{level_own}
use Rattle.corner_table.specs.Reads.LevelNumbers.{count_of}
use Rattle.corner_exchange.specs.Swaps.Exchanges.{signed}

-- the inside side, over of what has none
abbrev pub side_or : Option Side → Side
side_or None = Over
side_or (Some side) = side

-- what the line of slot w counts at the level with this side inside, in units of the level's cost: as the
-- deviation does, and nothing where it is not the level's
abbrev pub count_by : Lists → ℕ → ℕ → Side → ℤ
count_by t l w side = cond (nat_eq (slot_at t w).home l) (pos (count_of t (slot_at t w) side) *ℤ sign_of side)
    (pos 0)

-- the entering line's number in the level's row, with what it counts from now on
abbrev pub entering_at : Lists → Pair → ℕ → ℤ
entering_at t pair l = entry t l pair.enter -ℤ level_own t l *ℤ count_by t l pair.enter pair.side

-- what the leaving line counted
abbrev pub leaving_at : Lists → Pair → ℕ → ℤ
leaving_at t pair l = level_own t l *ℤ count_by t l pair.leave (side_or (standing_at t pair.leave).side)

-- the coefficients of the level's row in which the entering line is replaced by the leaving one's row
abbrev pub level_sum : Lists → Pair → ℕ → ℕ → ℤ
level_sum t pair l c = cond (nat_eq c pair.enter) (pos 0)
    (combination (pos (unsigned_abs (entry t pair.leave pair.enter))) (row_at t l)
    (neg_ℤ (signed (entry t pair.leave pair.enter) (entering_at t pair l))) (row_at t pair.leave) c
    +ℤ cond (nat_eq c pair.leave)
    (pos (unsigned_abs (entry t pair.leave pair.enter)) *ℤ leaving_at t pair l) (pos 0))

-- the cost that the level comes to
abbrev pub IsLevelValue : Lists → Pivot → ℕ → Fraction → Type 0
IsLevelValue t pivot l f = IsRatio f
    (sum_num (standing_at t l).value (neg_ℤ (entering_at t pivot.pair l *ℤ sign_of pivot.pair.side))
    (level_own t l *ℤ (priority_at t l).unit) pivot.value)
    (sum_den (standing_at t l).value (level_own t l *ℤ (priority_at t l).unit) pivot.value)

-- the stop names the level
abbrev pub IsStopOf : ℕ → TableStop → Type 0
IsStopOf l stop = stop ≡ Refused (Plain (LevelOf (PriorityLevel (REQUIRED - l))))
