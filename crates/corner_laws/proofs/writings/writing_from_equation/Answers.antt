use Rattle.corner_laws.proofs.MarkWritings.Equations.{writing_from_equation}
use Rattle.corner_laws.proofs.writings.writing_from_equation.Goals as goal

pub returns : goal.returns
returns c = writing_from_equation
