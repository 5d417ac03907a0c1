use Rattle.marker_remove.proofs.FreedPaths.{freed_path, unfit_there}
use Rattle.marker_remove.proofs.freeing.unfit.Goals as goal

pub returns-in-Ok : goal.returns-in-Ok
returns-in-Ok g c = (
  freed_path c.args.c.now.problem c.args.c.now.marks c.args.id c.args.swap c.in-Ok.path c.show_corner.ensures.kept c.requires.fresh c.requires.enter c.requires.stay c.requires.exchange c.requires.values c.requires.standing c.in-Ok.ensures,
  unfit_there c.args.c.now.problem c.args.c.now.marks c.args.swap c.in-Ok.path c.args.quantity c.requires.exchange c.in-Ok.ensures c.requires.quantity,
)
