use Rattle.sweep_run.specs.Told.{stretches_of}
use Rattle.session_undo.specs.Kept.{session_at}
use Rattle.session_undo.proofs.Commands.Swept.{sweep-stops, swept-answer}
use Rattle.session_undo.proofs.session.Session.sweep.Goals as goal

pub returns-in-Ok-clause-accepted : goal.returns-in-Ok-clause-accepted
returns-in-Ok-clause-accepted g c =
    let old = session_at c.self.inside.scene c.self.inside.budget c.self.inside.limits c.self.inside.version in
    rw (← c.self.view_is)
    (swept-answer old c.args.from c.args.to (stretches_of c.in-Ok.stretches.items) (rw (← c.self.view_is) at c.in_ok-may_sweep.ensures.free) c.in-Ok.ensures.swept)

pub returns-in-Err-clause-refused : goal.returns-in-Err-clause-refused
returns-in-Err-clause-refused g c =
    let old = session_at c.self.inside.scene c.self.inside.budget c.self.inside.limits c.self.inside.version in
    rw (c.sweep_refusal.ensures, ← c.self.view_is)
    (sweep-stops old c.args.from c.args.to c.in-Err.stop (rw (← c.self.view_is) at c.in_ok-may_sweep.ensures.free) c.in-Err.ensures.stop)
