use Rattle.std.proofs.Common.{List, refl, sym, subst}
use Rattle.problem_core.specs.Corners.{Swap}
use Rattle.corner_ends.specs.Trails.{HasRun}
use Rattle.corner_ends.proofs.Trails.{run_begins}
use Rattle.corner_ends.proofs.trail.Trail.begun.Goals as goal

pub returns-clause-trail : goal.returns-clause-trail
returns-clause-trail g c = record {
  kind = refl;
  swapped = subst (λ (swaps : List Swap). HasRun c.args.dual c.args.c.now.problem c.args.c.now.marks swaps c.args.c.now.marks) (sym c.requires.none) (run_begins c.args.dual c.args.c.now.problem c.args.c.now.marks c.show_corner.ensures.kept c.requires.sound);
  ordered = c.show_corner.ensures.kept.ordered;
}
