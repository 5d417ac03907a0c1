use Rattle.corner_laws.proofs.MarkWritings.Equations.{unfit_from_equation}
use Rattle.corner_laws.proofs.writings.unfit_from_equation.Goals as goal

pub returns : goal.returns
returns c = unfit_from_equation
