use Rattle.session_laws.proofs.Answering.BoundRemovals.{bound-removals}
use Rattle.session_laws.proofs.answered.bound_removals_have_room.Goals as goal

pub returns : goal.returns
returns c = bound-removals
