use Rattle.std.proofs.Common.{ℕ, ◌<◌, ◌≤◌, List}
use Rattle.problem_core.specs.declared.parts.Mark.{Mark}
use Rattle.problem_core.specs.declared.parts.Side.TheVariants.{Over}
use Rattle.problem_core.specs.Layout.{Problem}
use Rattle.problem_core.specs.Corners.{IsIn, place_of}
use Rattle.path_lines.specs.Exchanges.Pivots.{next_marks}
use Rattle.path_lines.specs.Tables.{AreLines, name_at}
use Rattle.path_levels.specs.Exchanges.Pivots.{IsExchangePivot}
use Rattle.path_fits.proofs.last.terms.are_over_from.Given as goal

abbrev pub invariant-loop-at : goal.invariant-loop-at
invariant-loop-at l = (k : ℕ) → l.fn.from ≤ k → k < l.at → (p : Problem) (marks : List Mark) → IsExchangePivot p marks l.pivot → AreLines p marks l.lines → IsIn (place_of (name_at p k) Over) (next_marks p l.pivot marks)
