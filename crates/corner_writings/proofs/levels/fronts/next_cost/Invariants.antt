use Rattle.std.proofs.Common.{◌<◌, ℕ, slice_index_or}
use Rattle.corner_table.specs.Kept.{HasCost}
use Rattle.corner_table.specs.Tables.{lists_of}
use Rattle.corner_writings.proofs.levels.fronts.next_cost.Given as goal

-- none of those that were looked at is above and that of a level
abbrev pub invariant-loop-n : goal.invariant-loop-n
invariant-loop-n l = (j : ℕ) → j < l.n-index → (l.fn.l < slice_index_or l.n-items j 0) × HasCost (lists_of l.fn.table) (slice_index_or l.n-items j 0) → ⊥
