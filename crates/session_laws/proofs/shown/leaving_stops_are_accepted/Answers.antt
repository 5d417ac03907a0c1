use Rattle.session_laws.proofs.Showing.Steps.{leaving-stops}
use Rattle.session_laws.proofs.shown.leaving_stops_are_accepted.Goals as goal

pub returns : goal.returns
returns c = leaving-stops
