-- How a row leaves the cost of its level.
use Rattle.std.specs.Prelude.{◌≡◌, ◌≢◌, ◌⊎◌, ℕ, ◌+◌, ◌*◌, ◌<◌, cond, nat_eq, List, [], ◌∷◌, ℤ, pos}
use Rattle.std.specs.Prelude.{neg_ℤ, ◌+ℤ◌, ◌*ℤ◌, All, Any, Some}
use Rattle.std.specs.Int.{◌∣◌}
use Rattle.frac_core.specs.Fraction as fractions
use Rattle.row_core.specs.Rows.{Term, coefficient, IsKeptRow}
use Rattle.problem_core.specs.declared.parts.Mark.{Mark}
use Rattle.problem_core.specs.declared.parts.RowName.{RowName}
use Rattle.problem_core.specs.declared.parts.RowName.TheVariants.{Held}
use Rattle.problem_core.specs.Changes.Stops.{TableStop}
use Rattle.frac_core.specs.declared.memory.Stop.TheVariants.{OutOfMemory as NoMemory}
use Rattle.problem_core.specs.Layout.{Problem, Row, lines, rank_level}
use Rattle.problem_core.specs.Changes.Begins.{without_marks}
use Rattle.problem_core.specs.Levels.{AreFitting, HasNoLevelWriting, IsCostAt}
use Rattle.corner_laws.specs.Units.{IsLevelRow, IsLevelUnit, IsReducedBy}
use Rattle.corner_lines.specs.LineEquations.{IsOutsideLine, sign_of}
use Rattle.corner_lines.specs.Levels.LevelFits.{IsFittingRow}
use Rattle.corner_lines.specs.Levels.LevelJoins.{level_count}
use Rattle.corner_lines.specs.Levels.LevelRows.{HasLevelRow}
use Rattle.corner_lines.specs.Removals.{without_row}
use Rattle.corner_writings.specs.declared.levels.fitting.Draft.{Draft}
use Rattle.corner_leaving.specs.declared.leaving.Leaver.{Leaver}
use Rattle.corner_leaving.specs.declared.leaving.Left.{Left}
use Rattle.corner_table.specs.Tables.{Lists, entry, line_slot, marks_at, priority_at, problem_of, slot_at}
use Rattle.corner_table.specs.Tables.{standing_at}
use Rattle.corner_writings.specs.Rows.{row_number}
use Rattle.corner_writings.specs.Fitting.{IsFittingLine}
use Rattle.corner_table.specs.Reads.LevelNumbers.{count_of}
use Rattle.corner_joins.specs.Additions.CostJoins.{HasOutside}

-- a row of the lists, with its slot, the side of its inside mark and its level
pub record IsLeaver (t : Lists) (r : Row) (leaver : Leaver) : Type 0 where
  pub held : Any (λ s. s ≡ r) t.rows
  pub id_is : leaver.id ≡ r.id
  pub line_is : line_slot t (Held r.id) ≡ leaver.line
  pub side_is : (standing_at t leaver.line).side ≡ Some leaver.side
  pub level_is : leaver.level ≡ rank_level r.rank

-- what is left of the problem
abbrev pub problem_left : Lists → Leaver → Problem
problem_left t leaver = without_row leaver.id (problem_of t)

-- what is left of the marks inside
abbrev pub marks_left : Lists → Leaver → List Mark
marks_left t leaver = without_marks (leaver.id ∷ []) (marks_at t)

-- ---- the unit

-- that of the level's cost without the row
pub record IsLeftUnit (t : Lists) (leaver : Leaver) (unit : ℤ) : Type 0 where
  pub size : ℕ
  pub unit_is : unit ≡ pos size
  pub least : IsLevelUnit (problem_left t leaver) leaver.level size

-- a multiple of the unit that fits, in which what the row counts is whole
pub record HasMultiple (r : Row) (unit : ℤ) : Type 0 where
  pub size : ℕ
  pub unit_is : unit ≡ pos size
  pub most : ℕ
  pub above : 0 < most
  pub fits : fractions.IsFitting (pos most)
  pub whole : size ∣ most
  pub whole_too : r.scale ∣ most * r.weight

-- ---- the row

-- what the row's inside mark counts in units of its level's cost
abbrev pub left_count : Lists → Leaver → ℕ
left_count t leaver = count_of t (slot_at t leaver.line) leaver.side

-- k and n take the line's own number out of its row and the level's, without what it counts
pub record IsLeftShare (t : Lists) (leaver : Leaver) (k : ℕ) (n : ℤ) : Type 0 where
  pub above : 0 < k
  pub same : n *ℤ entry t leaver.line leaver.line ≡ (entry t leaver.level leaver.level
      *ℤ neg_ℤ (pos (left_count t leaver) *ℤ sign_of leaver.side)) *ℤ pos k

-- the level's row with the line's, but without the line, where the level's cost is taken so many times less
abbrev pub left_whole : Lists → Leaver → ℕ → ℕ → ℤ → ℕ → ℤ
left_whole t leaver times k n c = cond (nat_eq c leaver.line) (pos 0) (cond (nat_eq c leaver.level)
    (pos (k * times) *ℤ entry t leaver.level leaver.level)
    (pos k *ℤ entry t leaver.level c +ℤ n *ℤ entry t leaver.line c))

-- the unit before is so many times the one of now
abbrev pub IsTimes : Lists → Leaver → ℤ → ℕ → Type 0
IsTimes t leaver unit times = (priority_at t leaver.level).unit ≡ pos times *ℤ unit

-- the row of the level in this unit without the row
pub record IsLeftRow (t : Lists) (leaver : Leaver) (unit : ℕ) (row : List Term) : Type 0 where
  pub own : ℕ
  pub own_is : coefficient leaver.level row ≡ pos own
  pub level_row : HasLevelRow (problem_left t leaver) (marks_left t leaver) leaver.level unit own
      (row_number t leaver.level row)
  pub columns : HasOutside t leaver.level row

-- want of memory, or a cost of the level that does not fit without the row
abbrev pub IsLeftStop : Lists → Leaver → TableStop → TableStop → Type 0
IsLeftStop t leaver stop e = (e ≡ NoMemory) ⊎ ((e ≡ stop)
    × HasNoLevelWriting (problem_left t leaver) (marks_left t leaver) leaver.level)

-- ---- what fits

-- the reduced costs of the level's other rows do
abbrev pub AreLeftFitting : Lists → Draft → List Term → ℕ → List Row → Type 0
AreLeftFitting t draft row id rows = All (λ r. rank_level r.rank ≡ draft.level → r.id ≢ id
    → IsFittingLine t draft row (line_slot t (Held r.id))) rows

-- the row's scale, numbers and reduced costs do without the leaving row
abbrev pub IsFittingLeft : Lists → Leaver → ℤ → List Term → Type 0
IsFittingLeft t leaver unit row = (size own : ℕ) → unit ≡ pos size → coefficient leaver.level row ≡ pos own
    → IsFittingRow (problem_left t leaver) (marks_left t leaver) leaver.level size own
    (row_number t leaver.level row)

-- they do not all fit without it
abbrev pub IsUnfitLeft : Lists → Leaver → ℤ → List Term → Type 0
IsUnfitLeft t leaver unit row = (size own : ℕ) → unit ≡ pos size → coefficient leaver.level row ≡ pos own
    → IsFittingRow (problem_left t leaver) (marks_left t leaver) leaver.level size own
    (row_number t leaver.level row) → ⊥

-- ---- all of it

-- the level's unit, row and cost without the row, which fit; a level without rows has no row
pub record IsLevelLeft (t : Lists) (leaver : Leaver) (left : Left) : Type 0 where
  pub at_is : left.change.at ≡ leaver.level
  pub rows : left.rows + 1 ≡ (priority_at t leaver.level).rows
  pub count : left.rows ≡ level_count leaver.level (problem_left t leaver).rows
  pub unit : ℕ
  pub own : ℕ
  pub unit_is : left.unit ≡ pos unit
  pub own_is : cond (nat_eq left.rows 0) (pos 1) (coefficient leaver.level left.change.row) ≡ pos own
  pub empty : left.rows ≡ 0 → left.change.row ≡ []
  pub least : IsLevelUnit (problem_left t leaver) leaver.level unit
  pub by : RowName → ℤ
  pub reduced : ℕ → ℤ
  pub row : IsLevelRow (problem_left t leaver) (marks_left t leaver) leaver.level unit own by
  pub outside : All (λ l. IsOutsideLine (marks_left t leaver) l.name
      → by l.name ≡ row_number t leaver.level left.change.row l.name) (lines (problem_left t leaver))
  pub columns : HasOutside t leaver.level left.change.row
  pub reduced_by : IsReducedBy (problem_left t leaver) leaver.level unit own by reduced
  pub fits : AreFitting (problem_left t leaver) (own * unit) by reduced
  pub cost : IsCostAt (problem_left t leaver) (marks_left t leaver) leaver.level left.change.value
  pub row_kept : IsKeptRow left.change.row
  pub value_kept : fractions.IsKept left.change.value
