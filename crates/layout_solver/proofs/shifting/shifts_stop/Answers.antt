use Rattle.layout_solver.proofs.Shifts.ShiftedProblems.{path_stop}
use Rattle.layout_solver.proofs.shifting.shifts_stop.Goals as goal

pub returns-in-Ok : goal.returns-in-Ok
returns-in-Ok g c = λ p old what is path unfit budget. path_stop p old c.args.c.now.marks c.in-Ok.path c.args.quantity what c.in-Plain.what c.args.changed budget is c.in-Plain.is c.in-Ok.ensures path unfit
