-- What the lists of a corner keep while rows that have joined it join the costs of their levels.
use Rattle.std.specs.Prelude.{◌≡◌, ℕ, ◌+◌, ◌*◌, ◌<◌, ◌≤◌, ◌++◌, nat_eq, List, [], ◌∷◌}
use Rattle.std.specs.Prelude.{filter, length, ℤ, pos, All}
use Rattle.frac_core.specs.Fraction as fractions
use Rattle.row_core.specs.Rows.{IsKeptRow}
use Rattle.problem_core.specs.declared.parts.Mark.{Mark}
use Rattle.problem_core.specs.declared.parts.RowName.{RowName}
use Rattle.problem_core.specs.declared.parts.Level.TheVariants.{Priority as PriorityLevel}
use Rattle.problem_core.specs.declared.stops.Quantity.TheVariants.{Plain, Terms, Rows, Shifts}
use Rattle.problem_core.specs.Changes.Stops.{TableStop}
use Rattle.frac_core.specs.declared.memory.Stop.TheVariants.{Refused, OutOfMemory as NoMemory}
use Rattle.problem_core.specs.Layout.{Problem, Row, lines, rank_level}
use Rattle.problem_core.specs.Kept.{IsWhole}
use Rattle.problem_core.specs.Corners.{IsCorner, Point, SameMarks, StandsAt}
use Rattle.problem_core.specs.Changes.Begins.{IsJoined}
use Rattle.problem_core.specs.Levels.{AreFitting, IsCostAt}
use Rattle.problem_core.specs.Rays.{HasRays}
use Rattle.problem_core.specs.Unfit.{IsUnfitRows, IsUnfitTerms, over_mark, with_first_rows}
use Rattle.corner_laws.specs.Units.{IsLevelRow, IsLevelUnit, IsReducedBy}
use Rattle.corner_lines.specs.Joins.{over_joined, with_row}
use Rattle.corner_lines.specs.LineEquations.{IsOutsideLine}
use Rattle.corner_table.specs.declared.table.TheConstants.{LEVELS}
use Rattle.corner_table.specs.Tables.{Lists, line_slot, marks_at, number, priority_at, problem_of, row_at}
use Rattle.corner_table.specs.Tables.{standing_at}
use Rattle.corner_table.specs.Kept.{AreOutside, AreSlots, AreStored, HasSlotsLeft, HasStayRoom, IsAttrRow}
use Rattle.corner_table.specs.Kept.{IsLineRow}
use Rattle.corner_table.specs.Kept.{level_own}
use Rattle.corner_table.specs.Kept.{row_count}

-- ---- levels whose last rows have not joined their costs

-- the problem where only the level's rows that have joined its cost have weights there
abbrev pub joined_at : Lists → ℕ → Problem
joined_at t k = with_first_rows k (priority_at t k).rows (problem_of t)

-- the numbers of a level's row, which fit
pub record HasPartNumbers (t : Lists) (k unit own : ℕ) : Type 0 where
  pub by : RowName → ℤ
  pub reduced : ℕ → ℤ
  pub row : IsLevelRow (joined_at t k) (marks_at t) k unit own by
  pub outside : All (λ l. IsOutsideLine (marks_at t) l.name → by l.name ≡ number t k l.name)
      (lines (joined_at t k))
  pub reduced_by : IsReducedBy (joined_at t k) k unit own by reduced
  pub fits : AreFitting (joined_at t k) (own * unit) by reduced

-- a level's unit, row and cost, by the rows that have joined it
pub record IsLevelPart (t : Lists) (k : ℕ) : Type 0 where
  pub unit : ℕ
  pub own : ℕ
  pub unit_is : (priority_at t k).unit ≡ pos unit
  pub own_is : level_own t k ≡ pos own
  pub rows : (priority_at t k).rows ≤ row_count t k
  pub empty : (priority_at t k).rows ≡ 0 → row_at t k ≡ []
  pub least : IsLevelUnit (joined_at t k) k unit
  pub numbers : HasPartNumbers t k unit own
  pub cost : IsCostAt (joined_at t k) (marks_at t) k (standing_at t k).value

-- all that lists keep, but of the levels only this
pub record IsPartlyKept (t : Lists) : Type 0 where
  pub whole : IsWhole (problem_of t)
  pub corner : IsCorner (problem_of t) (marks_at t)
  pub rays : HasRays (problem_of t) (marks_at t)
  pub slots : AreSlots t
  pub stored : AreStored t
  pub matrix : All IsKeptRow t.matrix
  pub values : All (λ s. fractions.IsKept s.value) t.standings
  pub attrs : All (λ s. IsAttrRow t s.attr) t.stays
  pub lines : All (λ l. IsLineRow t l.name (standing_at t (line_slot t l.name)).side) (lines (problem_of t))
  pub outside : AreOutside t
  pub levels : (k : ℕ) → k < LEVELS → IsLevelPart t k
  pub stay_levels : All (HasStayRoom t) t.stays

-- ---- a row joins the corner

-- lists that keep all but their levels, with slots left, and the problem with the row is whole
pub record CanTakeRow (t : Lists) (r : Row) : Type 0 where
  pub kept : IsPartlyKept t
  pub left : HasSlotsLeft t
  pub whole : IsWhole (with_row r (problem_of t))

-- the lists have the row too, with its mark that is not negative, and no level has changed
pub record IsWithRow (r : Row) (old new : Lists) : Type 0 where
  pub problem : problem_of new ≡ with_row r (problem_of old)
  pub mark : Mark
  pub marks : SameMarks (marks_at new) (mark ∷ marks_at old)
  pub point : Point
  pub stands : StandsAt (problem_of new) (marks_at new) point
  pub joined : IsJoined point r mark
  pub levels : new.priorities ≡ old.priorities

-- want of memory, or a sum of the row's first terms that does not fit where it is over
abbrev pub IsTermsStop : Lists → Row → TableStop → Type 0
IsTermsStop t r (Refused (Plain what)) = ⊥
IsTermsStop t r (Refused (Terms mark j)) = (mark ≡ over_mark r.id)
    × IsUnfitTerms (with_row r (problem_of t)) (over_joined r (marks_at t)) mark j
IsTermsStop t r (Refused (Rows level j)) = ⊥
IsTermsStop t r (Refused (Shifts what j)) = ⊥
IsTermsStop t r NoMemory = Unit {0}

-- ---- a row that has joined the corner joins its level

-- the row is the next of its level
abbrev pub IsNextRow : Lists → Row → Type 0
IsNextRow t r = (before : List Row) × (after : List Row) × (t.rows ≡ before ++ (r ∷ after))
    × ((priority_at t (rank_level r.rank)).rows
    ≡ length (filter (λ s. nat_eq (rank_level s.rank) (rank_level r.rank)) before))

-- want of memory, or the cost of the level's first rows, of which this is the last, that does not fit
abbrev pub IsRowsStop : Lists → Row → TableStop → Type 0
IsRowsStop t r (Refused (Plain what)) = ⊥
IsRowsStop t r (Refused (Terms mark j)) = ⊥
IsRowsStop t r (Refused (Rows level j)) = (level ≡ PriorityLevel r.rank)
    × (j ≡ (priority_at t (rank_level r.rank)).rows + 1) × IsUnfitRows (problem_of t) (marks_at t) level j
IsRowsStop t r (Refused (Shifts what j)) = ⊥
IsRowsStop t r NoMemory = Unit {0}
