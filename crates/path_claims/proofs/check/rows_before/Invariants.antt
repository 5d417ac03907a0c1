use Rattle.std.proofs.Common.{ℕ, ◌<◌, get_or}
use Rattle.problem_core.specs.Layout.{Row}
use Rattle.path_claims.proofs.check.rows_before.Given as goal

abbrev pub invariant-loop-at : goal.invariant-loop-at
invariant-loop-at l = (k : ℕ) (r : Row) → k < l.at → (get_or l.p.rows k r).id < l.id
