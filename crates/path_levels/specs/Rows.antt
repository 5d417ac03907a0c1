-- The first rows of levels, at a corner whose lines are kept.
use Rattle.std.specs.Prelude.{◌≡◌, ℕ, ◌<◌, ◌≤◌, nat_eq, List, length, filter, take, get_or}
use Rattle.std.specs.Prelude.{Option}
use Rattle.problem_core.specs.declared.parts.Mark.{Mark}
use Rattle.problem_core.specs.declared.parts.Level.{Level}
use Rattle.problem_core.specs.declared.stops.Quantity.TheVariants.{Rows}
use Rattle.problem_core.specs.Layout.{Problem, lines}
use Rattle.problem_core.specs.Unfit.{IsUnfitRows}
use Rattle.problem_core.specs.Levels.{IsLevelAt}
use Rattle.path_lines.specs.declared.table.Inside.{Inside}
use Rattle.path_lines.specs.Room.{ComesBefore}
use Rattle.path_lines.specs.Tables.{AreLines, IsLineAt, IsThere, line_count, name_at}
use Rattle.path_levels.specs.declared.outline.Outline.{Outline}
use Rattle.path_levels.specs.declared.outline.LineFacts.{LineFacts}
use Rattle.path_levels.specs.declared.sums.LevelSum.{LevelSum}
use Rattle.frac_core.specs.declared.memory.Stop.{Stop}
use Rattle.frac_core.specs.declared.memory.Stop.TheVariants.{Refused, OutOfMemory}
use Rattle.path_levels.specs.declared.rows.UnfitRows.{UnfitRows}
use Rattle.path_levels.specs.declared.tableau.CornerLines.{CornerLines}
use Rattle.path_levels.specs.Outlines.{IsOutline, number_at}
use Rattle.path_levels.specs.Levels.{IsLevelSum}

-- how many lines of this level there are
abbrev pub level_size : Problem → ℕ → ℕ
level_size p level = length (filter (λ l. nat_eq l.level level) (lines p))

-- how many of them are among the first k lines
abbrev pub level_place : Problem → ℕ → ℕ → ℕ
level_place p level k = length (filter (λ l. nat_eq l.level level) (take k (lines p)))

-- the corner's lines are kept
pub record AreKept (p : Problem) (at : List Mark) (outline : Outline) (kept : List (Option Inside))
    : Type 0 where
  pub outline_is : IsOutline p outline
  pub there : IsThere p at
  pub lines_are : AreLines p at kept

-- each of the first so many lines of the level is kept
pub record AreKeptOf (p : Problem) (at : List Mark) (outline : Outline) (place most : ℕ)
    (kept : List (Option Inside)) : Type 0 where
  pub outline_is : IsOutline p outline
  pub there : IsThere p at
  pub count : length kept ≡ line_count p
  pub each : (k : ℕ) (d : Option Inside) (f : LineFacts) → k < line_count p
      → (get_or outline.lines.items k f).level ≡ place
      → level_place p (number_at outline.levels.items place) k < most
      → IsLineAt p at (name_at p k) (get_or kept k d)

-- the level's first rows fit, up to so many
abbrev pub AreFittingRows : Problem → List Mark → Level → ℕ → Type 0
AreFittingRows p at level most = (j : ℕ) → j ≤ most → IsUnfitRows p at level j → ⊥

-- the first so many rows of the level do not fit, and fewer do
pub record IsFirstUnfit (p : Problem) (at : List Mark) (level : Level) (j : ℕ) : Type 0 where
  pub unfit : IsUnfitRows p at level j
  pub before : (i : ℕ) → i < j → IsUnfitRows p at level i → ⊥

-- the first so many rows of the level do not fit, and all sums of first rows that come before do
pub record IsFirstOfAll (p : Problem) (at : List Mark) (level : Level) (j : ℕ) : Type 0 where
  pub unfit : IsUnfitRows p at level j
  pub before : (other : Level) (i : ℕ) → ComesBefore p (Rows other i) (Rows level j)
      → IsUnfitRows p at other i → ⊥

-- every sum of first rows fits
abbrev pub AllRowsFit : Problem → List Mark → Type 0
AllRowsFit p at = (level : Level) (j : ℕ) → IsUnfitRows p at level j → ⊥

-- first rows of a level do not fit, or memory has run out
abbrev pub RowsStop : Type 0
RowsStop = Stop UnfitRows

-- so many first rows of the level do not fit
abbrev pub unfit_rows : Level → ℕ → RowsStop
unfit_rows level first = Refused (record { level = level; first = first })

-- why the rows of all levels are not made
abbrev pub IsLevelsStop : CornerLines → RowsStop → Type 0
IsLevelsStop corner (Refused rows) = (p : Problem) (at : List Mark)
    → AreKept p at corner.outline.now corner.lines.now → IsFirstOfAll p at rows.level rows.first
IsLevelsStop corner OutOfMemory = Unit {0}

-- ---- one level

-- the sum is the row of the level at the place, if it has no more lines than so many, and its first rows fit
pub record IsRowsSum (p : Problem) (at : List Mark) (outline : Outline) (place most : ℕ) (sum : LevelSum)
    : Type 0 where
  pub whole : level_size p (number_at outline.levels.items place) ≤ most
      → IsLevelSum p at (number_at outline.levels.items place) sum
  pub fitting : (level : Level) → IsLevelAt p level (number_at outline.levels.items place)
      → AreFittingRows p at level most

-- what holds whenever the first so many lines of the level at the place are kept
abbrev pub WithFirstLines : CornerLines → (place most : ℕ) → (Problem → List Mark → Type 0) → Type 0
WithFirstLines corner place most holds = (p : Problem) (at : List Mark)
    → AreKeptOf p at corner.outline.now place most corner.lines.now → holds p at

-- why the row of the level at the place is not made
abbrev pub IsRowsStop : CornerLines → (place most : ℕ) → RowsStop → Type 0
IsRowsStop corner place most (Refused rows) = WithFirstLines corner place most
    (λ p at. IsLevelAt p rows.level (number_at corner.outline.now.levels.items place)
    × (rows.first ≤ most) × IsFirstUnfit p at rows.level rows.first)
IsRowsStop corner place most OutOfMemory = Unit {0}
