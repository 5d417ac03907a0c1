use Rattle.std.proofs.Common.{◌≡◌, ◌≤◌, nat_eq, length, filter, take}
use Rattle.problem_core.specs.Layout.{Row}
use Rattle.path_claims.proofs.orders.rank_count.Given as goal

abbrev pub invariant-loop-r : goal.invariant-loop-r
invariant-loop-r l = record {
  count : l.count ≡ length (filter (λ (r : Row). nat_eq r.rank l.rank) (take l.r-index l.p.rows));
  small : l.count ≤ l.r-index;
}
