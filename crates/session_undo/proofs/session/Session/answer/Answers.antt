use Rattle.session_undo.proofs.session.Session.answer.Goals as goal

pub returns-in-Sweep-clause-accepted : goal.returns-in-Sweep-clause-accepted
returns-in-Sweep-clause-accepted g c = rw c.in-Sweep.is c.sweep.ensures.accepted

pub returns-in-Sweep-clause-refused : goal.returns-in-Sweep-clause-refused
returns-in-Sweep-clause-refused g c = rw c.in-Sweep.is c.sweep.ensures.refused
