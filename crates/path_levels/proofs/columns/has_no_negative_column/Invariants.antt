use Rattle.std.proofs.Common.{ℕ, ◌<◌, List}
use Rattle.problem_core.specs.declared.parts.Mark.{Mark}
use Rattle.problem_core.specs.Layout.{Problem}
use Rattle.path_levels.specs.Costs.{HasNegative}
use Rattle.path_levels.specs.Levels.{AreLevels}
use Rattle.path_levels.specs.Rows.{AreKept}
use Rattle.path_levels.proofs.columns.has_no_negative_column.Given as goal

abbrev pub invariant-loop-at : goal.invariant-loop-at
invariant-loop-at l = (k : ℕ) → k < l.at → (p : Problem) (marks : List Mark) → AreKept p marks l.tableau.corner.outline.now l.tableau.corner.lines.now → AreLevels p marks l.tableau.corner.outline.now l.tableau.levels.now → HasNegative p marks k → ⊥
