use Rattle.layout_solver.proofs.Removals.PlainStops.{stops_plainly}
use Rattle.layout_solver.proofs.laws.removals_stop_plainly.Goals as goal

pub returns : goal.returns
returns c = stops_plainly
