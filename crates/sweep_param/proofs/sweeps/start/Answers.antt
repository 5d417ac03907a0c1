use Rattle.sweep_param.proofs.Starting.{no_conflict, parts_started, parts_stop, parts_whole}
use Rattle.sweep_param.proofs.sweeps.start.Goals as goal

pub started-requires : goal.started-requires
started-requires g c = record { whole = parts_whole c.args.p.now c.rows.result.now c.stays.result.now c.rows.ensures c.stays.ensures c.show_whole.ensures }

pub run_stop-requires : goal.run_stop-requires
run_stop-requires g c =
    no_conflict c.args.p.now c.args.range.now.budget c.in-Err.stop c.show_whole.ensures c.requires.solvable
    (parts_stop c.args.p.now c.rows.result.now c.stays.result.now c.args.range.now.budget c.in-Err.stop c.rows.ensures c.stays.ensures c.in-Err.ensures.stop)

pub returns-in-Ok-clause-started : goal.returns-in-Ok-clause-started
returns-in-Ok-clause-started g c =
    parts_started c.args.p.now c.rows.result.now c.stays.result.now c.args.range.now.budget c.in-Ok.corner c.rows.ensures c.stays.ensures c.in-Ok.ensures.problem c.show_corner.ensures.kept c.in-Ok.ensures.end c.in-Ok.ensures.path
