use Rattle.session_laws.proofs.Showing.Steps.{step-stops}
use Rattle.session_laws.proofs.shown.step_stops_are_accepted.Goals as goal

pub returns : goal.returns
returns c = step-stops
