use Rattle.std.proofs.Common.{rules}
use Rattle.dual_run.proofs.FrontOrders.{no_front_lesser}
use Rattle.dual_run.proofs.ratios.order.Goals as goal

pub returns-in-None-clause-less : goal.returns-in-None-clause-less
returns-in-None-clause-less g c = λ e.
    no_front_lesser c.args.c.now.problem c.args.c.now.marks c.args.a.choice c.args.b.choice c.show_corner.ensures.kept c.requires.columns c.requires.a c.requires.b (search rules)

pub returns-in-None-front-clause-greater : goal.returns-in-None-front-clause-greater
returns-in-None-front-clause-greater g c = λ e.
    no_front_lesser c.args.c.now.problem c.args.c.now.marks c.args.b.choice c.args.a.choice c.show_corner.ensures.kept c.requires.columns c.requires.b c.requires.a (search rules)
