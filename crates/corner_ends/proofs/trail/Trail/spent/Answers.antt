use Rattle.corner_ends.proofs.Trails.{spent_stop}
use Rattle.corner_ends.proofs.trail.Trail.spent.Goals as goal

pub returns-in-Ok : goal.returns-in-Ok
returns-in-Ok g c = λ dual first trail no_end.
    spent_stop dual c.args.c.now.problem first c.args.c.now.marks c.args.self.now.swaps c.in-Ok.path trail.swapped no_end (c.in-Ok.ensures dual first trail)
