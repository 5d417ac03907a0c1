use Rattle.std.proofs.Common.{rules, ◌*ℤ◌, inl, inr, sym}
use Rattle.std.specs.declared.cmp.Ordering.TheVariants.{Less, Equal, Greater}
use Rattle.std.proofs.lemmas.Cmp.{int_ranked}
use Rattle.problem_core.specs.Corners.{place}
use Rattle.corner_ends.specs.Trails.{in_tie_order}
use Rattle.primal_run.proofs.Counts.{earlier_a, earlier_b}
use Rattle.primal_run.proofs.deciding.earlier.Goals as goal

pub returns-in-Less-clause-earlier : goal.returns-in-Less-clause-earlier
returns-in-Less-clause-earlier g c = λ first run.
    earlier_a c.args.c.now.problem c.args.c.now.marks (place c.args.enter) (in_tie_order first) c.args.a c.args.b c.show_corner.ensures.kept c.requires.a c.requires.b
    (inl (int_ranked (c.args.a.above *ℤ c.args.b.below) (c.args.b.above *ℤ c.args.a.below) Less (search rules)))

pub returns-in-Greater-clause-earlier : goal.returns-in-Greater-clause-earlier
returns-in-Greater-clause-earlier g c = λ first run.
    earlier_b c.args.c.now.problem c.args.c.now.marks (place c.args.enter) (in_tie_order first) c.args.a c.args.b c.show_corner.ensures.kept c.requires.a c.requires.b
    (inl (int_ranked (c.args.a.above *ℤ c.args.b.below) (c.args.b.above *ℤ c.args.a.below) Greater (search rules)))

pub returns-then-breaks_tie-clause-earlier : goal.returns-then-breaks_tie-clause-earlier
returns-then-breaks_tie-clause-earlier g c = λ first run.
    earlier_a c.args.c.now.problem c.args.c.now.marks (place c.args.enter) (in_tie_order first) c.args.a c.args.b c.show_corner.ensures.kept c.requires.a c.requires.b
    (inr (int_ranked (c.args.a.above *ℤ c.args.b.below) (c.args.b.above *ℤ c.args.a.below) Equal (search rules), c.breaks_tie.ensures.yes c.if-breaks_tie.true first run c.requires.a.w c.requires.b.w c.requires.a.writes c.requires.b.writes))

pub returns-else-breaks_tie-clause-earlier : goal.returns-else-breaks_tie-clause-earlier
returns-else-breaks_tie-clause-earlier g c = λ first run.
    earlier_b c.args.c.now.problem c.args.c.now.marks (place c.args.enter) (in_tie_order first) c.args.a c.args.b c.show_corner.ensures.kept c.requires.a c.requires.b
    (inr (sym (int_ranked (c.args.a.above *ℤ c.args.b.below) (c.args.b.above *ℤ c.args.a.below) Equal (search rules)), c.breaks_tie.ensures.no c.if-breaks_tie.false first run c.requires.b.w c.requires.a.w c.requires.b.writes c.requires.a.writes))
