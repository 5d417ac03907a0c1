use Rattle.path_lines.proofs.Exchanges.CarriedSums.{carried_is_equation}
use Rattle.path_lines.proofs.laws.carried_is_equation.Goals as goal

pub returns : goal.returns
returns c = carried_is_equation
