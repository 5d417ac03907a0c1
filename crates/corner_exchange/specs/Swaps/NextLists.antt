-- Lists with other standings and rows at the next corner.
use Rattle.std.specs.Prelude.{◌≡◌, ℕ, ◌*◌, ◌<◌, List, [], ℤ, pos, ◌*ℤ◌, All, Some, None}
use Rattle.std.specs.declared.option.Option.{Option}
use Rattle.frac_core.specs.Fraction.{Fraction}
use Rattle.frac_core.specs.Fraction as fractions
use Rattle.row_core.specs.Rows.{IsKeptRow, Term}
use Rattle.problem_core.specs.declared.parts.Mark.{Mark}
use Rattle.problem_core.specs.declared.parts.RowName.{RowName}
use Rattle.problem_core.specs.declared.parts.Side.{Side}
use Rattle.problem_core.specs.Kept.{IsWhole}
use Rattle.problem_core.specs.Layout.{lines}
use Rattle.problem_core.specs.Window.{zero_fraction}
use Rattle.problem_core.specs.Corners.{IsCorner, SameMarks, Swap, attr_column}
use Rattle.problem_core.specs.Levels.{AreFitting, IsCostAt}
use Rattle.problem_core.specs.Rays.{HasRays}
use Rattle.corner_laws.specs.Units.{IsLevelRow, IsLevelUnit, IsReducedBy}
use Rattle.corner_lines.specs.LineEquations.{IsOutsideLine, deviation, sign_of}
use Rattle.corner_exchange.specs.declared.exchange.Change.{Change}
use Rattle.corner_exchange.specs.declared.exchange.Exchange.{Exchange}
use Rattle.corner_writings.specs.declared.levels.Pair.{Pair}
use Rattle.corner_table.specs.declared.table.Standing.{Standing}
use Rattle.corner_table.specs.declared.table.TheConstants.{LEVELS}
use Rattle.corner_table.specs.Tables.{Lists, attr_slot, line_slot, marks_at, number, priority_at, problem_of}
use Rattle.corner_table.specs.Tables.{row_at}
use Rattle.corner_table.specs.Tables.{standing_at}
use Rattle.corner_table.specs.Kept.{AreOutside, AreSlots, AreStored, HasStayRoom, level_own, row_count}
use Rattle.corner_exchange.specs.Swaps.Exchanges.{IsEquationBy, IsPair, marks_after}
use Rattle.corner_exchange.specs.Swaps.TurnedLevels.{IsTurn}

-- ---- changes

-- the row and the value are in lowest terms, and fit
abbrev pub IsKeptChange : Change → Type 0
IsKeptChange change = IsKeptRow change.row × fractions.IsKept change.value

-- so are those of the entering line and of all slots that change
pub record AreKeptChanges (made : Exchange) : Type 0 where
  pub entering : IsKeptChange made.entering
  pub changes : All IsKeptChange made.changes.items

-- ---- lists that are kept at marks which may stand in another order

-- the lists with these standings and rows
abbrev pub over : Lists → List Standing → List (List Term) → Lists
over t v m = record {
  rows = t.rows;
  stays = t.stays;
  slots = t.slots;
  standings = v;
  matrix = m;
  attr_slots = t.attr_slots;
  row_slots = t.row_slots;
  priorities = t.priorities;
}

-- the row and the value are those of an inside line; an outside one has neither
abbrev pub IsLineBy : Lists → List Mark → RowName → ℕ → List Term → Option Side → Fraction → Type 0
IsLineBy t at name w row None value = (row ≡ []) × (value ≡ zero_fraction)
IsLineBy t at name w row (Some side) value =
    IsEquationBy t at (deviation name) w row (sign_of side *ℤ value.num) value.den

-- a level's unit, row and cost
pub record IsLevelNext (t : Lists) (at : List Mark) (k : ℕ) : Type 0 where
  pub unit : ℕ
  pub own : ℕ
  pub unit_is : (priority_at t k).unit ≡ pos unit
  pub own_is : level_own t k ≡ pos own
  pub rows : (priority_at t k).rows ≡ row_count t k
  pub empty : row_count t k ≡ 0 → row_at t k ≡ []
  pub least : IsLevelUnit (problem_of t) k unit
  pub by : RowName → ℤ
  pub reduced : ℕ → ℤ
  pub row : IsLevelRow (problem_of t) at k unit own by
  pub outside : All (λ l. IsOutsideLine at l.name → by l.name ≡ number t k l.name) (lines (problem_of t))
  pub reduced_by : IsReducedBy (problem_of t) k unit own by reduced
  pub fits : AreFitting (problem_of t) (own * unit) by reduced
  pub cost : IsCostAt (problem_of t) at k (standing_at t k).value

-- all that lists keep, at marks that are those inside
pub record IsKeptBy (t : Lists) (at : List Mark) : Type 0 where
  pub marks : SameMarks at (marks_at t)
  pub whole : IsWhole (problem_of t)
  pub corner : IsCorner (problem_of t) at
  pub rays : HasRays (problem_of t) at
  pub slots : AreSlots t
  pub stored : AreStored t
  pub matrix : All IsKeptRow t.matrix
  pub values : All (λ s. fractions.IsKept s.value) t.standings
  pub attrs : All (λ s. IsEquationBy t at (λ x. x (attr_column s.attr)) (attr_slot t s.attr)
      (row_at t (attr_slot t s.attr)) (standing_at t (attr_slot t s.attr)).value.num
      (standing_at t (attr_slot t s.attr)).value.den) t.stays
  pub lines : All (λ l. IsLineBy t at l.name (line_slot t l.name) (row_at t (line_slot t l.name))
      (standing_at t (line_slot t l.name)).side (standing_at t (line_slot t l.name)).value)
      (lines (problem_of t))
  pub outside : AreOutside t
  pub levels : (k : ℕ) → k < LEVELS → IsLevelNext t at k
  pub stay_levels : All (HasStayRoom t) t.stays

-- ---- in contracts, for each exchange or turn of these slots

-- the marks inside are those after the exchange
abbrev pub AreMarksBy : Lists → Pair → Lists → Type 0
AreMarksBy t pair u = (s : Swap) → IsPair t pair s → SameMarks (marks_at u) (marks_after t s)

-- the marks inside are those after the turn
abbrev pub AreMarksTurned : Lists → ℕ → Side → Lists → Type 0
AreMarksTurned t line side u = (s : Swap) → IsTurn t line side s → SameMarks (marks_at u) (marks_after t s)
