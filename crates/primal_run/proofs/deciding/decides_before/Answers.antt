use Rattle.corner_view.proofs.Facts.{mark_named}
use Rattle.primal_run.proofs.TieKeys.{row_tie, rows_no_tie, rows_tie, stays_no_tie, stays_tie}
use Rattle.std.proofs.Common.{arith}
use Rattle.primal_run.proofs.deciding.decides_before.Goals as goal

pub returns-in-Held-Held-clause-yes : goal.returns-in-Held-Held-clause-yes
returns-in-Held-Held-clause-yes g c = λ yes. rows_tie c.args.c.now.problem.stays c.args.f c.args.g _ _ c.in-Held-Held.is-0 c.in-Held-Held.is-1 (c.is_before.ensures.yes yes)

pub returns-in-Held-Held-clause-no : goal.returns-in-Held-Held-clause-no
returns-in-Held-Held-clause-no g c = λ no. rows_no_tie c.args.c.now.problem.stays c.args.f c.args.g _ _ c.in-Held-Held.is-0 c.in-Held-Held.is-1 (c.is_before.ensures.no no)

pub returns-in-Held-Stay-clause-yes : goal.returns-in-Held-Stay-clause-yes
returns-in-Held-Stay-clause-yes g c = λ _.
    row_tie c.args.c.now.problem c.args.f c.args.g _ _ c.show_corner.ensures.kept.whole c.in-Held-Stay.is-0 c.in-Held-Stay.is-1 (mark_named c.args.c.now.problem c.args.f c.requires.f) (mark_named c.args.c.now.problem c.args.g c.requires.g)

pub returns-in-Stay-Held-clause-no : goal.returns-in-Stay-Held-clause-no
returns-in-Stay-Held-clause-no g c = λ _.
    let less = row_tie c.args.c.now.problem c.args.g c.args.f _ _ c.show_corner.ensures.kept.whole c.in-Stay-Held.is-1 c.in-Stay-Held.is-0 (mark_named c.args.c.now.problem c.args.g c.requires.g) (mark_named c.args.c.now.problem c.args.f c.requires.f) in
    omega (arith, less)

pub returns-in-Stay-Stay-clause-yes : goal.returns-in-Stay-Stay-clause-yes
returns-in-Stay-Stay-clause-yes g c = λ yes.
    stays_tie c.args.c.now.problem c.args.f c.args.g _ _ c.in-Stay-Stay.is-0 c.in-Stay-Stay.is-1 (mark_named c.args.c.now.problem c.args.g c.requires.g) (c.is_before-in-Stay-Stay.ensures.yes yes)

pub returns-in-Stay-Stay-clause-no : goal.returns-in-Stay-Stay-clause-no
returns-in-Stay-Stay-clause-no g c = λ no. stays_no_tie c.args.c.now.problem.stays c.args.f c.args.g _ _ c.in-Stay-Stay.is-0 c.in-Stay-Stay.is-1 (c.is_before-in-Stay-Stay.ensures.no no)
