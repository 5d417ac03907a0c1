use Rattle.corner_lines.proofs.FrontsStay.{exchanged_costs_are_alike}
use Rattle.corner_lines.proofs.fronts.exchanged_costs_are_alike.Goals as goal

pub returns : goal.returns
returns c = exchanged_costs_are_alike
