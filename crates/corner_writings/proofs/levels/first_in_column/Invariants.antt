use Rattle.corner_table.specs.Tables.{lists_of}
use Rattle.corner_writings.proofs.LevelFacts.ColumnFronts.{IsBestSoFar}
use Rattle.corner_writings.proofs.levels.first_in_column.Given as goal

-- what is found is a stay's level, and none of those that were looked at is stronger
abbrev pub invariant-loop-l : goal.invariant-loop-l
invariant-loop-l l = IsBestSoFar (lists_of l.fn.table) l.fn.line l.fn.side l.l-items l.l-index l.first
