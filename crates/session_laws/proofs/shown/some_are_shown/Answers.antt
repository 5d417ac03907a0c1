use Rattle.session_laws.proofs.Showing.Instances.{some-shown}
use Rattle.session_laws.proofs.shown.some_are_shown.Goals as goal

pub returns : goal.returns
returns c = some-shown
