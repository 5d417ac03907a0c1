-- The count of a line in a level's row, by its kept facts.
use Rattle.std.specs.Prelude.{ℕ, ◌*◌, ◌/◌, cond, nat_eq, ℤ, pos, ◌-ℤ◌, ◌+ℤ◌, ◌*ℤ◌, ◌<ℤ◌, neg_ℤ}
use Rattle.std.specs.Prelude.{unsigned_abs, Option, None, Some}
use Rattle.frac_core.specs.Fraction.{IsFitting}
use Rattle.problem_core.specs.declared.parts.Side.{Side}
use Rattle.problem_core.specs.declared.parts.Side.TheVariants.{Under, Over}
use Rattle.path_lines.specs.declared.exchange.Pivot.{Pivot}
use Rattle.path_lines.specs.Numbers.{number_at}
use Rattle.path_levels.specs.declared.outline.LineFacts.{LineFacts}
use Rattle.path_levels.specs.declared.sums.LevelSum.{LevelSum}

-- the unit and the row's own number are above 0, and their product fits
pub record IsScaled (sum : LevelSum) : Type 0 where
  pub unit : pos 0 <ℤ sum.unit
  pub own : pos 0 <ℤ sum.own
  pub scale : IsFitting (sum.own *ℤ sum.unit)

-- the cost of the line's deviation on this side
abbrev pub weight_on : Side → LineFacts → ℤ
weight_on Under facts = facts.under
weight_on Over facts = facts.over

-- the count at the line's level, if the level's cost is taken `unit` times
abbrev pub share_of : Side → ℕ → LineFacts → ℕ
share_of side unit facts = unit * unsigned_abs (weight_on side facts) / unsigned_abs facts.scale

-- the count at the level at the place
abbrev pub share_at : LineFacts → Side → ℕ → ℤ → ℕ
share_at facts side place unit = cond (nat_eq facts.level place) (share_of side (unsigned_abs unit) facts) 0

-- the same, times the own number of the level's row
abbrev pub counted_of : LineFacts → Side → ℕ → LevelSum → ℕ
counted_of facts side place sum = unsigned_abs sum.own * share_at facts side place sum.unit

-- the line's number in the level's row if its mark of this side is inside
abbrev pub stood_of : LineFacts → Side → ℕ → LevelSum → ℤ
stood_of facts Under place sum = pos (counted_of facts Under place sum)
stood_of facts Over place sum = neg_ℤ (pos (counted_of facts Over place sum))

-- the reduced cost of the mark of this side, if the line has the number
abbrev pub reduced_of : LineFacts → Side → ℕ → LevelSum → ℤ → ℤ
reduced_of facts Under place sum number = pos (counted_of facts Under place sum) -ℤ number
reduced_of facts Over place sum number = pos (counted_of facts Over place sum) +ℤ number

-- the entering line's number in the level's row before an exchange
abbrev pub before_of : LineFacts → Pivot → ℕ → LevelSum → ℤ
before_of facts pivot place sum = cond pivot.is_turn (stood_of facts pivot.step.leave.side place sum)
    (number_at sum.by.items pivot.step.enter.at)

-- the same less the line's count after the exchange
abbrev pub entering_of : LineFacts → Pivot → ℕ → LevelSum → ℤ
entering_of facts pivot place sum =
    before_of facts pivot place sum -ℤ stood_of facts pivot.step.enter.side place sum

-- the line's number in the level's row: the number kept, or its count if a mark of this side is inside
abbrev pub shown_of : LineFacts → Option Side → ℕ → LevelSum → ℤ → ℤ
shown_of facts None place sum number = number
shown_of facts (Some side) place sum number = stood_of facts side place sum
