-- The cost of a line's level where the line's other mark comes inside.
use Rattle.std.specs.Prelude.{◌≡◌, ◌≢◌, ℕ, ◌+◌, ◌<◌, ◌≤◌, cond, nat_eq, length, ℤ, pos, neg_ℤ, ◌*ℤ◌, Some}
use Rattle.std.specs.Prelude.{None}
use Rattle.std.specs.declared.option.Option.{Option}
use Rattle.frac_core.specs.Fraction as fractions
use Rattle.frac_core.specs.Fraction.{Fraction, IsFitting, IsRatio, sum_den, sum_num}
use Rattle.row_core.specs.Rows.{IsKeptRow, coefficient, combination}
use Rattle.version_lists.specs.Matrices.{IsBelow}
use Rattle.problem_core.specs.declared.parts.Side.{Side}
use Rattle.problem_core.specs.declared.parts.Side.TheVariants.{Under, Over}
use Rattle.problem_core.specs.Changes.Stops.{TableStop}
use Rattle.problem_core.specs.Corners.{Swap}
use Rattle.corner_laws.specs.Runs.{other_side}
use Rattle.corner_lines.specs.LineEquations.{sign_of}
use Rattle.corner_exchange.specs.declared.exchange.Change.{Change}
use Rattle.corner_table.specs.declared.table.TheConstants.{LEVELS}
use Rattle.corner_view.specs.Stops.{IsUnfitStop}
use Rattle.corner_exchange.specs.Swaps.Exchanges.{IsLevelBy, marks_after}
use Rattle.corner_table.specs.Kept.{IsOutsideSlot}
use Rattle.corner_table.specs.Kept.{IsKept, level_own}
use Rattle.corner_exchange.specs.Swaps.LevelChanges.{IsStopOf}
use Rattle.corner_table.specs.Reads.LevelNumbers.{count_of}
use Rattle.corner_table.specs.Tables.{Lists, entry, line_slot, priority_at, problem_of, row_at, slot_at}
use Rattle.corner_table.specs.Tables.{standing_at}
use Rattle.corner_view.specs.Seen.{IsNamed}

-- the slot of a line whose mark of this side enters, and whose other one, which is inside, leaves
pub record IsTurn (t : Lists) (line : ℕ) (side : Side) (s : Swap) : Type 0 where
  pub enters : IsNamed (problem_of t) s.enter.row
  pub slot : line_slot t s.enter.row ≡ line
  pub side_is : s.enter.side ≡ side
  pub row : s.enter.row ≡ s.leave.row
  pub sides : s.enter.side ≡ other_side s.leave.side
  pub inside : (standing_at t line).side ≡ Some s.leave.side

-- the level's row and its cost after the turn, both in lowest terms; the outside lines are those from before
pub record IsTurnedLevel (t : Lists) (line : ℕ) (s : Swap) (change : Change) : Type 0 where
  pub level : change.at ≡ (slot_at t line).home
  pub below : IsBelow (length t.slots) change.row
  pub kept : IsKeptRow change.row
  pub value_kept : fractions.IsKept change.value
  pub outside : (c : ℕ) → coefficient c change.row ≢ pos 0 → c ≢ change.at → IsOutsideSlot t c
  pub level_is : IsLevelBy t (marks_after t s) change.at change.row change.value

-- lists that are kept, where the line's mark of this side can come in place of the other
pub record CanTurnTo (t : Lists) (line : ℕ) (side : Side) : Type 0 where
  pub kept : IsKept t
  pub swap : Swap
  pub is : IsTurn t line side swap

-- lists that are kept, with one of the line's marks inside
abbrev pub CanTurn : Lists → ℕ → Type 0
CanTurn t line = (side : Side) × CanTurnTo t line side

-- ---- the numbers

-- what the line counts on both sides
abbrev pub counts_at : Lists → ℕ → ℕ
counts_at t line = count_of t (slot_at t line) Under + count_of t (slot_at t line) Over

-- the line has a priority's level, and counts this there on both sides
pub record HasCounts (t : Lists) (line : ℕ) (count : ℤ) : Type 0 where
  pub level : (slot_at t line).home < LEVELS
  pub count_is : count ≡ pos (counts_at t line)
  pub fits : IsFitting count

-- what it counted in its level's row, less what it counts from now on
abbrev pub turning_at : Lists → ℕ → Side → ℤ
turning_at t line side = (level_own t (slot_at t line).home *ℤ pos (counts_at t line)) *ℤ sign_of side

-- the coefficients of the level's row from which the line goes with its own row
abbrev pub turned_sum : Lists → ℕ → Side → ℕ → ℤ
turned_sum t line side c = cond (nat_eq c line) (pos 0)
    (combination (entry t line line) (row_at t (slot_at t line).home)
    (turning_at t line side) (row_at t line) c)

-- the cost that the level comes to
abbrev pub IsTurnedValue : Lists → ℕ → Fraction → Type 0
IsTurnedValue t line f = IsRatio f
    (sum_num (standing_at t (slot_at t line).home).value (neg_ℤ (pos (counts_at t line)))
    (priority_at t (slot_at t line).home).unit (standing_at t line).value)
    (sum_den (standing_at t (slot_at t line).home).value (priority_at t (slot_at t line).home).unit
    (standing_at t line).value)

-- the stop names the line's level
abbrev pub IsHomeStop : Lists → ℕ → TableStop → Type 0
IsHomeStop t line stop = IsStopOf (slot_at t line).home stop

-- ---- in contracts, for each turn of the slot

-- the change has the row of the line's level and its cost after the turn
abbrev pub IsTurnedBy : Lists → ℕ → Side → Change → Type 0
IsTurnedBy t line side change = (s : Swap) → IsTurn t line side s → IsTurnedLevel t line s change

-- a stay's level has no change: its row is the stay's own
abbrev pub IsTurnBy : Lists → ℕ → Side → Option Change → Type 0
IsTurnBy t line side None = LEVELS ≤ (slot_at t line).home
IsTurnBy t line side (Some change) = ((slot_at t line).home < LEVELS) × IsTurnedBy t line side change

-- want of memory, or a quantity of the problem that does not fit after it
abbrev pub IsTurnStop : Lists → ℕ → Side → TableStop → Type 0
IsTurnStop t line side stop = (s : Swap) → IsTurn t line side s
    → IsUnfitStop (problem_of t) (marks_after t s) stop

-- the same, whichever mark of the line enters
abbrev pub IsAnyTurnStop : Lists → ℕ → TableStop → Type 0
IsAnyTurnStop t line stop = (side : Side) → IsTurnStop t line side stop
