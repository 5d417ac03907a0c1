use Rattle.std.proofs.Common.{refl}
use Rattle.sweep_run.proofs.Beginning.{begun_at}
use Rattle.sweep_run.proofs.slides.begun.Goals as goal

pub returns : goal.returns
returns g c =
    begun_at c.args.c.now.problem c.args.way.now c.args.c.now.marks _ c.show_corner.ensures.kept.whole c.requires.way c.requires.end.end refl c.new.ensures.items c.in_ok-values.ensures
