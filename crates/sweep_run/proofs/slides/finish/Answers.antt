use Rattle.std.proofs.Common.{◌∙◌}
use Rattle.sweep_run.proofs.Advancing.{each_corner}
use Rattle.sweep_run.proofs.Finishing.{ended_slid}
use Rattle.sweep_run.proofs.Stepping.{last_advances}
use Rattle.sweep_run.proofs.slides.finish.Goals as goal

pub advance-requires-clause-to : goal.advance-requires-clause-to
advance-requires-clause-to g c =
    last_advances c.args.c.now c.args.way.now c.requires.sliding.1.at_end c.args.slid.now c.requires.sliding.1.on_way.behind c.last.result c.last.ensures.place c.last.ensures.width c.requires.values c.requires.sliding.1.columns c.requires.free

pub returns-clause-through : goal.returns-clause-through
returns-clause-through g c =
    ended_slid c.args.c.now.problem c.args.way.now c.args.c.now.marks c.requires.sliding.1.at_end.whole (each_corner c.args.c.now c.args.way.now c.requires.sliding.1.at_end c.show_corner.ensures.kept.corner) c.requires.sliding.1.at_end.parts.near_place c.advance.new.slid c.in_ok-advance.ensures.behind
    (c.in_ok-advance.ensures.at ∙ c.last.ensures.width)
