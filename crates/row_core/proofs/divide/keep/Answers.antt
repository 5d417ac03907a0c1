use Rattle.std.proofs.lemmas.Int.{to_z-of_z}
use Rattle.row_core.proofs.divide.keep.Goals as goal

pub fitting_quotient-requires-clause-divides : goal.fitting_quotient-requires-clause-divides
fitting_quotient-requires-clause-divides c = simp (to_z-of_z, c.ranges.by, c.ranges.divisor) c.requires.divides
