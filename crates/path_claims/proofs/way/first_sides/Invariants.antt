use Rattle.std.proofs.Common.{length, ◌+◌}
use Rattle.path_claims.specs.Ways.{AreFirstSides}
use Rattle.path_claims.proofs.way.first_sides.Given as goal

abbrev pub invariant-loop : goal.invariant-loop
invariant-loop l = AreFirstSides l.p (length l.p.rows + l.counter) l.out.items
