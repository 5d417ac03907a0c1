use Rattle.path_lines.proofs.Exchanges.EnteringLine.{entering_is_equation}
use Rattle.path_lines.proofs.laws.entering_is_equation.Goals as goal

pub returns : goal.returns
returns c = entering_is_equation
