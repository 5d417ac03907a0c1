use Rattle.std.proofs.Common.{◌∷◌, ◌++◌, [], arith}
use Rattle.corner_ends.proofs.Trails.{length_more, unfit_stop}
use Rattle.corner_ends.proofs.trail.Trail.unfit.Goals as goal

pub returns-in-Ok-clause-after : goal.returns-in-Ok-clause-after
returns-in-Ok-clause-after g c = λ dual first new trail run unfit budget short.
    let more = length_more c.args.self.now.swaps c.args.swap in
    unfit_stop dual c.args.c.now.problem first new (c.args.self.now.swaps ++ c.args.swap ∷ []) c.in-Ok.path c.args.quantity budget run unfit (omega (arith, short, more)) (c.in-Ok.ensures dual first trail)
