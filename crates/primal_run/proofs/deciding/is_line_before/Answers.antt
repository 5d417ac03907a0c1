use Rattle.std.proofs.Common.{◌+◌, arith, subst}
use Rattle.corner_view.specs.Seen.{IsNamed}
use Rattle.primal_run.specs.Deciding.{stays_before}
use Rattle.primal_run.proofs.TieKeys.{level_there, row_first, stay_before, stay_not_before}
use Rattle.primal_run.proofs.deciding.is_line_before.Goals as goal

pub is_stronger-requires-clause-a : goal.is_stronger-requires-clause-a
is_stronger-requires-clause-a g c = (1001 + stays_before c.args.c.now.problem.stays c.in-Stay-Stay.a, level_there c.args.c.now.problem c.in-Stay-Stay.a (subst (IsNamed c.args.c.now.problem) c.in-Stay-Stay.is-0 c.requires.f))

pub is_stronger-requires-clause-b : goal.is_stronger-requires-clause-b
is_stronger-requires-clause-b g c = (1001 + stays_before c.args.c.now.problem.stays c.in-Stay-Stay.b, level_there c.args.c.now.problem c.in-Stay-Stay.b (subst (IsNamed c.args.c.now.problem) c.in-Stay-Stay.is-1 c.requires.g))

pub returns-in-Held-Stay-clause-yes : goal.returns-in-Held-Stay-clause-yes
returns-in-Held-Stay-clause-yes g c = λ _. row_first c.args.c.now.problem c.args.f c.args.g _ _ c.show_corner.ensures.kept.whole c.in-Held-Stay.is-0 c.in-Held-Stay.is-1 c.requires.f

pub returns-in-Stay-Held-clause-no : goal.returns-in-Stay-Held-clause-no
returns-in-Stay-Held-clause-no g c = λ _.
    let less = row_first c.args.c.now.problem c.args.g c.args.f _ _ c.show_corner.ensures.kept.whole c.in-Stay-Held.is-1 c.in-Stay-Held.is-0 c.requires.g in omega (arith, less)

pub returns-in-Stay-Stay-clause-yes : goal.returns-in-Stay-Stay-clause-yes
returns-in-Stay-Stay-clause-yes g c = λ yes.
    stay_before c.args.c.now.problem c.args.f c.args.g c.in-Stay-Stay.a c.in-Stay-Stay.b c.in-Stay-Stay.is-0 c.in-Stay-Stay.is-1 c.requires.f c.requires.g (c.is_stronger.ensures.yes yes)

pub returns-in-Stay-Stay-clause-no : goal.returns-in-Stay-Stay-clause-no
returns-in-Stay-Stay-clause-no g c = λ no.
    stay_not_before c.args.c.now.problem c.args.f c.args.g c.in-Stay-Stay.a c.in-Stay-Stay.b c.in-Stay-Stay.is-0 c.in-Stay-Stay.is-1 c.requires.f c.requires.g (c.is_stronger.ensures.no no)
