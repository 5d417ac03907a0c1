use Rattle.std.proofs.Common.{◌≢◌, ℕ, ◌<◌, get_or}
use Rattle.row_core.specs.Rows.{Term}
use Rattle.row_core.proofs.row.place_in_turn.Given as goal

abbrev pub invariant-loop-i : goal.invariant-loop-i
invariant-loop-i l = (k : ℕ) (d : Term) → k < l.i → (get_or l.entries k d).col ≢ l.col.0
