use Rattle.corner_lines.proofs.FrontsStay.{joined_costs_are_alike}
use Rattle.corner_lines.proofs.fronts.joined_costs_are_alike.Goals as goal

pub returns : goal.returns
returns c = joined_costs_are_alike
