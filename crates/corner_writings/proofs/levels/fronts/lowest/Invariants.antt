use Rattle.std.proofs.Common.{◌<◌, ℕ, slice_index_or}
use Rattle.corner_table.specs.Kept.{HasCost}
use Rattle.corner_table.specs.Tables.{lists_of}
use Rattle.corner_writings.proofs.levels.fronts.lowest.Given as goal

-- none of those that were looked at is that of a level
abbrev pub invariant-loop-l : goal.invariant-loop-l
invariant-loop-l l = (j : ℕ) → j < l.l-index → HasCost (lists_of l.fn.table) (slice_index_or l.l-items j 0) → ⊥
