use Rattle.diagnosis.proofs.Probes.ProbeStops.{stop_at}
use Rattle.diagnosis.proofs.MovingAttributes.{can_of, next_answered}
use Rattle.diagnosis.proofs.moving.push_moving.Goals as goal

pub returns-in-Ok-push_answer-clause-moving : goal.returns-in-Ok-push_answer-clause-moving
returns-in-Ok-push_answer-clause-moving g c attrs below are =
    next_answered c.args.e.now.problem c.args.e.now.values attrs c.args.out.now.items c.push_answer.new.out.items c.args.attr c.in-Ok.answer below c.in-Ok.ensures.answer c.in-Ok-push_answer.ensures are

pub ambiguous-requires : goal.ambiguous-requires
ambiguous-requires g c = record { can = can_of c.args.e.now c.args.attr c.requires.can c.requires.held }

pub returns-in-Err-clause-stop : goal.returns-in-Err-clause-stop
returns-in-Err-clause-stop g c = stop_at c.args.e.now c.args.budget c.args.attr c.in-Err.stop (can_of c.args.e.now c.args.attr c.requires.can c.requires.held) c.in-Err.ensures.stop
