use Rattle.path_levels.specs.Joins.{AreFittingTo}
use Rattle.path_levels.proofs.joins.are_lines_fitting.Given as goal

abbrev pub invariant-loop-at : goal.invariant-loop-at
invariant-loop-at l = AreFittingTo l.fn.corner.outline.now l.fn.corner.lines.now l.fn.place l.at l.fn.draft
