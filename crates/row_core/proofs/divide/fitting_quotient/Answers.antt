use Rattle.std.proofs.lemmas.Int.{to_z-of_z}
use Rattle.row_core.proofs.divide.fitting_quotient.Goals as goal

pub quotient-q-requires-clause-divides : goal.quotient-q-requires-clause-divides
quotient-q-requires-clause-divides c = simp (to_z-of_z, c.ranges.by, c.ranges.divisor) c.requires.divides
