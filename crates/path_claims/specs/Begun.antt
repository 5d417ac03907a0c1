-- The parts of the corner where a route begins.
use Rattle.std.specs.Prelude.{◌≡◌, ℕ, ◌<◌, ◌≤◌, List, length, get_or, Option}
use Rattle.problem_core.specs.declared.stops.Quantity.{Quantity}
use Rattle.problem_core.specs.declared.stops.Quantity.TheVariants.{Plain, Terms, Rows, Shifts}
use Rattle.problem_core.specs.Layout.{Problem, Row}
use Rattle.problem_core.specs.Unfit.{IsUnfitAt, over_mark}
use Rattle.path_lines.specs.declared.table.Inside.{Inside}
use Rattle.path_lines.specs.Walking.FirstLines.{AreFirstLines}
use Rattle.cert_core.specs.Stops.{IsPartial}
use Rattle.path_lines.specs.Room.{ComesBefore}
use Rattle.path_lines.specs.Route.{over_marks}
use Rattle.path_lines.specs.Tables.{AreSized}
use Rattle.path_claims.specs.declared.begins.Begun.{Begun}
use Rattle.path_claims.specs.declared.begins.Begun.TheVariants.{Whole, Until}
use Rattle.path_levels.specs.declared.outline.Outline.{Outline}
use Rattle.path_levels.specs.declared.sums.LevelSum.{LevelSum}
use Rattle.path_levels.specs.Levels.{AreLevels, AreSizedLevels}
use Rattle.path_levels.specs.Rows.{AreKept}

-- all lines and levels are made, and each sum of first terms or of first rows fits
pub record IsWholeBegun (p : Problem) (outline : Outline) (lines : List (Option Inside))
    (levels : List LevelSum) : Type 0 where
  pub kept : AreKept p (over_marks p) outline lines
  pub sized : AreSized lines
  pub count : length lines ≡ length outline.lines.items
  pub levels_are : AreLevels p (over_marks p) outline levels
  pub levels_sized : AreSizedLevels (length lines) levels
  pub level_count : length levels ≡ length outline.levels.items
  pub fits : (sum : Quantity) → IsPartial sum → IsUnfitAt p (over_marks p) sum → ⊥

-- the first n lines are those of all rows before the sum's
abbrev pub Reaches : Problem → ℕ → Quantity → Type 0
Reaches p n (Plain what) = ⊥
Reaches p n (Terms mark j) = (id : ℕ) × (mark ≡ over_mark id)
    × ((k : ℕ) (d : Row) → k < length p.rows → (get_or p.rows k d).id < id → k < n)
Reaches p n (Rows level j) = length p.rows ≤ n
Reaches p n (Shifts what j) = ⊥

-- the lines before the first sum that does not fit
pub record IsBegunUntil (p : Problem) (lines : List (Option Inside)) (sum : Quantity) : Type 0 where
  pub lines_are : AreFirstLines p (length lines) lines
  pub reaches : Reaches p (length lines) sum
  pub unfit : IsUnfitAt p (over_marks p) sum
  pub before : (q : Quantity) → ComesBefore p q sum → IsUnfitAt p (over_marks p) q → ⊥

-- all of the corner where the route begins, or its lines before the first sum that does not fit
abbrev pub IsBegun : Problem → Outline → Begun → Type 0
IsBegun p outline (Whole table) = IsWholeBegun p outline table.lines.items table.levels.items
IsBegun p outline (Until lines unfit) = IsBegunUntil p lines.items unfit
