use Rattle.layout_solver.proofs.Starts.FirstStays.{stays_whole}
use Rattle.layout_solver.proofs.starting.started.Goals as goal

pub with_stays-requires : goal.with_stays-requires
with_stays-requires g c = record { whole = stays_whole c.args.rows.now c.args.stays.now c.requires.whole }
