use Rattle.path_levels.proofs.Parts.RowsLoop.{AreJoined}
use Rattle.path_levels.proofs.rows.rows_level.Given as goal

abbrev pub invariant-loop-at : goal.invariant-loop-at
invariant-loop-at l = AreJoined l.fn.corner.outline.now l.fn.corner.lines.now l.fn.place l.fn.most l.at l.first l.sum
