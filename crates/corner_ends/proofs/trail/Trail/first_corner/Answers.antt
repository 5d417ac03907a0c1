use Rattle.std.proofs.Common.{◌∙◌, List, ap, subst, sym}
use Rattle.problem_core.specs.Corners.{Swap}
use Rattle.corner_ends.specs.Begins.{HasExchanged}
use Rattle.corner_ends.specs.Trails.{Trail}
use Rattle.corner_ends.proofs.Trails.{run_exchanges}
use Rattle.corner_ends.proofs.trail.Trail.first_corner.Goals as goal

pub returns : goal.returns
returns g c = λ dual first trail.
    c.in_ok-marks.ensures first
    (subst (λ (xs : List Swap). HasExchanged first xs c.args.c.now.marks) (sym (c.deref.ensures.value ∙ ap (λ (t : Trail). t.swaps) c.self.view_is)) (run_exchanges dual c.args.c.now.problem first c.args.c.now.marks c.args.self.now.swaps trail.swapped))
    trail.ordered
