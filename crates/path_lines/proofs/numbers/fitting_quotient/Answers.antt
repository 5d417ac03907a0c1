use Rattle.std.proofs.lemmas.Int.{to_z-of_z}
use Rattle.path_lines.proofs.numbers.fitting_quotient.Goals as goal

pub quotient-part-requires-clause-divides : goal.quotient-part-requires-clause-divides
quotient-part-requires-clause-divides c = simp (to_z-of_z, c.ranges.number, c.ranges.divisor) c.requires.divides
