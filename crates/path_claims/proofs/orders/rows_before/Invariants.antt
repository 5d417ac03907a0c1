use Rattle.std.proofs.Common.{ℕ, ◌<◌, get_or}
use Rattle.problem_core.specs.Layout.{Row}
use Rattle.path_claims.proofs.orders.rows_before.Given as goal

abbrev pub invariant-loop-at : goal.invariant-loop-at
invariant-loop-at l = (k : ℕ) (d : Row) → k < l.at → (get_or l.p.rows k d).id < l.id
