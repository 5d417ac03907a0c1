use Rattle.corner_table.specs.Tables.{lists_of}
use Rattle.corner_writings.proofs.LevelFacts.FittingLoops.{AreFittingSoFar}
use Rattle.corner_writings.proofs.levels.fitting.do_lines_fit.Given as goal

abbrev pub invariant-loop-row : goal.invariant-loop-row
invariant-loop-row l = AreFittingSoFar (lists_of l.table) l.draft l.new l.joined l.row-index l.row-items
