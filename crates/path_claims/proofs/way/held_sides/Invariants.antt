use Rattle.path_claims.specs.Ways.{AreFirstSides}
use Rattle.path_claims.proofs.way.held_sides.Given as goal

abbrev pub invariant-loop : goal.invariant-loop
invariant-loop l = AreFirstSides l.p l.counter l.out.items
