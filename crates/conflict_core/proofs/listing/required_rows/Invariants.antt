use Rattle.std.proofs.Common.{◌≡◌, filter, map, nat_eq, take}
use Rattle.problem_core.specs.declared.limits.TheConstants.{REQUIRED}
use Rattle.conflict_core.proofs.listing.required_rows.Given as goal

abbrev pub invariant-loop-row : goal.invariant-loop-row
invariant-loop-row l = l.out.items ≡ map (λ r. r.id) (filter (λ r. nat_eq r.rank REQUIRED) (take l.row-index l.p.rows))
