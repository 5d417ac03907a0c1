use Rattle.primal_run.proofs.Deciders.{all_seen}
use Rattle.primal_run.proofs.deciding.deciding.Goals as goal

pub returns-clause-seen : goal.returns-clause-seen
returns-clause-seen g c = λ f.
    all_seen c.args.c.now c.args.trail.now c.args.tie c.see_row-found.result c.see_row.result f c.show_corner.ensures.kept c.requires.tie.0 c.requires.tie.1 (c.see_row-found.ensures.seen f) c.see_row.ensures.later (c.see_row.ensures.seen f)
