use Rattle.std.proofs.Common.{◌≡◌, replicate, None}
use Rattle.path_claims.proofs.route.no_sides.Given as goal

abbrev pub invariant-loop : goal.invariant-loop
invariant-loop l = l.sides.items ≡ replicate l.counter None
