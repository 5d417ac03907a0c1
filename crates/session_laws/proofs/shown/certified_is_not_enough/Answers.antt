use Rattle.session_laws.proofs.Showing.Instances.{not-enough}
use Rattle.session_laws.proofs.shown.certified_is_not_enough.Goals as goal

pub returns : goal.returns
returns c = not-enough
