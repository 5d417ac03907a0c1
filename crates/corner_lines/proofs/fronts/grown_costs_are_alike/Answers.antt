use Rattle.corner_lines.proofs.FrontsStay.{grown_costs_are_alike}
use Rattle.corner_lines.proofs.fronts.grown_costs_are_alike.Goals as goal

pub returns : goal.returns
returns c = grown_costs_are_alike
