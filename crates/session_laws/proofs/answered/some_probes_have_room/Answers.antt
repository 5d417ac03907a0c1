use Rattle.session_laws.proofs.Answering.LoneSessions.{far-lacks, free-room}
use Rattle.session_laws.proofs.answered.some_probes_have_room.Goals as goal

pub returns : goal.returns
returns c = record { has = free-room; lacks = far-lacks }
