use Rattle.session_laws.proofs.Answering.LoneSessions.{held-poses, held-room}
use Rattle.session_laws.proofs.Answering.MiddleRemovals.{middle-poses, middle-room}
use Rattle.session_laws.proofs.answered.some_removals_have_room.Goals as goal

pub returns : goal.returns
returns c = record { has = held-room; some = held-poses; middle = middle-room; left = middle-poses }
