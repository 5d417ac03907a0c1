use Rattle.corner_laws.proofs.MarkWritings.Equations.{writings_are_equal}
use Rattle.corner_laws.proofs.writings.writings_are_equal.Goals as goal

pub returns : goal.returns
returns c = writings_are_equal
