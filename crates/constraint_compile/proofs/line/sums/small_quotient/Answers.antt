use Rattle.std.proofs.lemmas.Int.{to_z-of_z}
use Rattle.constraint_compile.proofs.line.sums.small_quotient.Goals as goal

pub quotient-by-requires-clause-divides : goal.quotient-by-requires-clause-divides
quotient-by-requires-clause-divides c = simp (to_z-of_z, c.ranges.number, c.ranges.divisor) c.requires.divides
