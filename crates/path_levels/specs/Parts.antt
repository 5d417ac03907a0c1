-- A level of which only the first lines have joined.
use Rattle.std.specs.Prelude.{◌≡◌, ℕ, ◌+◌, ◌<◌, ◌≤◌, List, length, map, get_or, slice_index_or, pos, All}
use Rattle.std.specs.Prelude.{Option}
use Rattle.problem_core.specs.Window.{zero_fraction}
use Rattle.corner_lines.specs.Levels.StayLevels.{turned}
use Rattle.problem_core.specs.declared.limits.TheConstants.{REQUIRED}
use Rattle.problem_core.specs.declared.parts.Mark.{Mark}
use Rattle.problem_core.specs.Layout.{Problem}
use Rattle.problem_core.specs.Levels.{HasNoLevelWriting}
use Rattle.problem_core.specs.Unfit.{with_first_rows}
use Rattle.path_lines.specs.declared.table.Inside.{Inside}
use Rattle.path_lines.specs.Tables.{IsLineAt, IsThere, line_count, name_at}
use Rattle.path_levels.specs.declared.outline.Outline.{Outline}
use Rattle.path_levels.specs.declared.outline.LineFacts.{LineFacts}
use Rattle.path_levels.specs.declared.sums.LevelSum.{LevelSum}
use Rattle.path_levels.specs.declared.tableau.CornerLines.{CornerLines}
use Rattle.path_levels.specs.Outlines.{IsOutline, number_at}
use Rattle.path_levels.specs.Levels.{IsLevelSum}
use Rattle.path_levels.specs.Rows.{level_place}

-- a row without numbers
pub record IsEmptySum (count : ℕ) (sum : LevelSum) : Type 0 where
  pub unit : sum.unit ≡ pos 1
  pub own : sum.own ≡ pos 1
  pub zero : All (λ z. z ≡ pos 0) sum.by.items
  pub count_is : length sum.by.items ≡ count
  pub cost : sum.cost ≡ zero_fraction

-- the stay's equation, with the other sign if the under mark is inside
pub record IsStaySum (inside : Inside) (sum : LevelSum) : Type 0 where
  pub unit : sum.unit ≡ pos 1
  pub own : sum.own ≡ inside.sum.own
  pub by : sum.by.items ≡ map (turned inside.side) inside.sum.by.items
  pub cost : sum.cost ≡ record { num = turned inside.side inside.sum.value.num; den = inside.sum.value.den }

-- the place of the line's level
abbrev pub level_there : Outline → ℕ → ℕ
level_there outline at = slice_index_or (map (λ f. f.level) outline.lines.items) at 0

-- the rows of the level from a place on have no weight
abbrev pub part : Problem → (level upto : ℕ) → Problem
part p level upto = with_first_rows level (level_place p level upto) p

-- the level at the place is one of rows, and each line of it before another place is kept
pub record IsPartKept (p : Problem) (at : List Mark) (outline : Outline) (place upto : ℕ)
    (kept : List (Option Inside)) : Type 0 where
  pub outline_is : IsOutline p outline
  pub there : IsThere p at
  pub within : place < length outline.levels.items
  pub held : number_at outline.levels.items place ≤ REQUIRED
  pub count : length kept ≡ line_count p
  pub each : (k : ℕ) (d : Option Inside) (f : LineFacts) → k < upto → k < line_count p
      → (get_or outline.lines.items k f).level ≡ place → IsLineAt p at (name_at p k) (get_or kept k d)

-- the sum is the row of the level with these lines
abbrev pub IsPartSum : Problem → List Mark → Outline → (place upto : ℕ) → LevelSum → Type 0
IsPartSum p at outline place upto sum = IsLevelSum (part p (number_at outline.levels.items place) upto) at
    (number_at outline.levels.items place) sum

-- what holds if the line at a place, and the lines of its level before it, are kept, and the sum is the row
-- of the level with the lines before it
abbrev pub WithPart : CornerLines → (at : ℕ) → LevelSum → (Problem → List Mark → ℕ → Type 0) → Type 0
WithPart corner at old holds = (p : Problem) (marks : List Mark) (place : ℕ)
    → level_there corner.outline.now at ≡ place
    → IsPartKept p marks corner.outline.now place (at + 1) corner.lines.now
    → IsPartSum p marks corner.outline.now place at old → holds p marks place

-- it does not fit
abbrev pub IsPartUnfit : Problem → List Mark → Outline → (place upto : ℕ) → Type 0
IsPartUnfit p at outline place upto =
    HasNoLevelWriting (part p (number_at outline.levels.items place) upto) at
    (number_at outline.levels.items place)
