use Rattle.path_levels.specs.OutlineParts.{AreFactsTo}
use Rattle.path_levels.proofs.outline.row_lines.Given as goal

abbrev pub invariant-loop-r : goal.invariant-loop-r
invariant-loop-r l = AreFactsTo l.p l.levels l.r-index l.lines.items
