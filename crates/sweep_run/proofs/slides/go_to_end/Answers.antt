use Rattle.std.proofs.Common.{rules}
use Rattle.sweep_run.proofs.Beginning.{at_end_of, rewound, shift_stop}
use Rattle.sweep_run.proofs.slides.go_to_end.Goals as goal

pub returns-in-Ok-clause-held : goal.returns-in-Ok-clause-held
returns-in-Ok-clause-held g c = at_end_of c.args.c.now.problem c.args.way.now c.shift.new.c c.in-Ok.ensures.problem c.in-Ok.ensures.whole c.requires.way

pub returns-in-Err-Refused-clause-stop : goal.returns-in-Err-Refused-clause-stop
returns-in-Err-Refused-clause-stop g c =
    shift_stop c.args.c.now c.shift.new.c c.args.way.now c.show_corner.ensures.kept c.requires.way c.requires.end.end (rewound c.args.c.now c.shift.new.c c.requires.marked c.in-Err-Refused.ensures.same) c.of-trail.result c.of-trail.ensures.trail c.of-trail.ensures.none c.in-Err-Refused.quantity
    c.unfit_at.result (search rules) c.unfit_at.ensures
