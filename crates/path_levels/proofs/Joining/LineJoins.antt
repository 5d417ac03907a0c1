-- What a line's joining of its level's row starts from, between two problems.
use Rattle.std.specs.Prelude.{◌≡◌, ◌⊎◌, ℕ, ◌<◌, pos, List, unsigned_abs, All, Any, Option, None, Some}
use Rattle.problem_core.specs.declared.parts.Side.{Side}
use Rattle.problem_core.specs.declared.parts.RowName.{RowName}
use Rattle.problem_core.specs.declared.parts.Mark.{Mark}
use Rattle.problem_core.specs.Layout.{Line, Problem, lines}
use Rattle.problem_core.specs.Certificates.{over_weight, under_weight}
use Rattle.problem_core.specs.Corners.{IsCorner, IsIn, Point, StandsAt, place_of}
use Rattle.problem_core.specs.declared.parts.Side.TheVariants.{Under, Over}
use Rattle.problem_core.specs.Rays.{HasRays}
use Rattle.corner_laws.proofs.LinePlaces.{AllApart}
use Rattle.corner_lines.specs.LineEquations.{IsOutsideLine}
use Rattle.corner_lines.specs.Levels.LevelCosts.{HasDeviation, IsSound}
use Rattle.corner_lines.specs.Levels.LevelJoins.{AreLinesBefore}
use Rattle.corner_lines.specs.Levels.LevelRows.{IsPivot, line_numbers}
use Rattle.path_lines.specs.declared.table.Inside.{Inside}
use Rattle.path_lines.specs.Tables.{IsSized, line_count, numbers_of}
use Rattle.path_levels.specs.declared.outline.LineFacts.{LineFacts}
use Rattle.path_levels.specs.declared.sums.LevelSum.{LevelSum}
use Rattle.path_levels.specs.Levels.{IsLevelSum}

-- what the line costs, and its scale
pub record IsCostOf (l : Line) (f : LineFacts) : Type 0 where
  pub under : f.under ≡ pos (under_weight l.rel l.weight)
  pub over : f.over ≡ pos (over_weight l.rel l.weight)
  pub scale : f.scale ≡ pos l.scale

-- the line's inside mark and its equation
pub record IsInsideLine (q : Problem) (at : List Mark) (name : RowName) (inside : Inside) : Type 0 where
  pub within : IsIn (place_of name inside.side) at
  pub no_other : (other : Side) → IsIn (place_of name other) at → other ≡ inside.side
  pub sized : IsSized (line_count q) inside.sum
  pub line_is : IsPivot q at name name (unsigned_abs inside.sum.own)
      (line_numbers name (unsigned_abs inside.sum.own) (numbers_of (lines q) inside.sum.by.items))
  pub zeros : All (λ l. IsOutsideLine at l.name ⊎ (numbers_of (lines q) inside.sum.by.items l.name ≡ pos 0))
      (lines q)
  pub value_den : 0 < inside.sum.value.den
  pub deviation_is : HasDeviation q at name inside.sum.value

abbrev pub IsJoiningLine : Problem → List Mark → RowName → Option Inside → Type 0
IsJoiningLine q at name None = IsOutsideLine at name
IsJoiningLine q at name (Some inside) = IsInsideLine q at name inside

-- q is p where the line of this name has its weight
pub record IsLineJoin (p q : Problem) (at : List Mark) (level : ℕ) (name : RowName) (old : LevelSum)
    (f : LineFacts) (kept : Option Inside) : Type 0 where
  pub sound_before : IsSound p
  pub corner_before : IsCorner p at
  pub sound : IsSound q
  pub corner : IsCorner q at
  pub rays : HasRays q at
  pub apart : AllApart (lines q)
  pub before : AreLinesBefore name (lines p) (lines q)
  pub named : Any (λ l. l.name ≡ name) (lines q)
  pub facts_are : All (λ l. l.name ≡ name → (l.level ≡ level) × IsCostOf l f) (lines q)
  pub old_is : IsLevelSum p at level old
  pub line_is : IsJoiningLine q at name kept
  pub same_stands : (x : Point) → StandsAt p at x → StandsAt q at x
  pub zero_outside : (x : Point) → StandsAt p at x → IsOutsideLine at name
      → (x.num (place_of name Under) ≡ pos 0) × (x.num (place_of name Over) ≡ pos 0)
