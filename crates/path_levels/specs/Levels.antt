-- The kept rows of levels at a corner.
use Rattle.std.specs.Prelude.{◌≡◌, ◌⊎◌, ℕ, ◌<◌, List, length, get_or, pos, ◌<ℤ◌, ◌*ℤ◌, unsigned_abs, All}
use Rattle.frac_core.specs.Fraction.{IsFitting}
use Rattle.problem_core.specs.declared.parts.Mark.{Mark}
use Rattle.problem_core.specs.declared.parts.Level.{Level}
use Rattle.problem_core.specs.declared.stops.What.TheVariants.{Level as LevelOf}
use Rattle.problem_core.specs.Layout.{Problem, lines}
use Rattle.problem_core.specs.Levels.{HasNoLevelWriting}
use Rattle.problem_core.specs.Unfit.{IsUnfitWhat}
use Rattle.corner_lines.specs.LineEquations.{IsOutsideLine}
use Rattle.corner_lines.specs.Levels.LevelFits.{IsFittingRow, IsLevelThere}
use Rattle.path_lines.specs.Tables.{line_count, numbers_of}
use Rattle.path_levels.specs.declared.outline.Outline.{Outline}
use Rattle.path_levels.specs.declared.sums.LevelSum.{LevelSum}
use Rattle.path_levels.specs.Outlines.{number_at}

-- the sum has a number for each of so many lines, and its scale and its numbers fit
pub record IsSizedLevel (count : ℕ) (sum : LevelSum) : Type 0 where
  pub count_is : length sum.by.items ≡ count
  pub unit_above : pos 0 <ℤ sum.unit
  pub own_above : pos 0 <ℤ sum.own
  pub scale : IsFitting (sum.own *ℤ sum.unit)
  pub fits : All IsFitting sum.by.items

-- each level's sum is sized
abbrev pub AreSizedLevels : ℕ → List LevelSum → Type 0
AreSizedLevels count levels = All (IsSizedLevel count) levels

-- it is the row of the level with this number at the corner, and the cost there; scale, numbers and reduced
-- costs fit
pub record IsLevelSum (p : Problem) (at : List Mark) (level : ℕ) (sum : LevelSum) : Type 0 where
  pub sized : IsSizedLevel (line_count p) sum
  pub there : IsLevelThere p at level (unsigned_abs sum.unit) (unsigned_abs sum.own)
      (numbers_of (lines p) sum.by.items) sum.cost
  pub fitting : IsFittingRow p at level (unsigned_abs sum.unit) (unsigned_abs sum.own)
      (numbers_of (lines p) sum.by.items)
  pub inside : All (λ l. IsOutsideLine at l.name ⊎ (numbers_of (lines p) sum.by.items l.name ≡ pos 0))
      (lines p)

-- each level of the outline has its kept row
pub record AreLevels (p : Problem) (at : List Mark) (outline : Outline) (levels : List LevelSum)
    : Type 0 where
  pub count : length levels ≡ length outline.levels.items
  pub each : (k : ℕ) (d : LevelSum) → k < length outline.levels.items
      → IsLevelSum p at (number_at outline.levels.items k) (get_or levels k d)

-- it is the row of the level at a place of the outline
abbrev pub IsSumAt : Problem → List Mark → Outline → ℕ → LevelSum → Type 0
IsSumAt p at outline place sum = IsLevelSum p at (number_at outline.levels.items place) sum

-- no row of that level fits
abbrev pub HasNoSumAt : Outline → ℕ → Problem → List Mark → Type 0
HasNoSumAt outline place p at = HasNoLevelWriting p at (number_at outline.levels.items place)

-- the cost of some level does not fit
abbrev pub HasUnfitLevel : Problem → List Mark → Type 0
HasUnfitLevel p at = (level : Level) × IsUnfitWhat p at (LevelOf level)
