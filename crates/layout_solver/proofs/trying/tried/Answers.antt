use Rattle.std.proofs.Common.{[], ◌++◌, subst}
use Rattle.problem_core.specs.Layout.{Problem}
use Rattle.layout_solver.specs.Layouts.{IsBestValue}
use Rattle.layout_solver.proofs.BestValues.{best_value, moved_stay}
use Rattle.layout_solver.proofs.Starts.MovedProblems.{one_problem}
use Rattle.layout_solver.proofs.trying.tried.Goals as goal

pub attr_value-requires : goal.attr_value-requires
attr_value-requires g c = record { attr = moved_stay c.args.c.now (c.args.c.now.problem.rows ++ c.args.rows.now) c.extend.new.c.problem c.args.attr c.in_ok-extend.ensures.problem c.requires.attr }

pub returns-clause-value : goal.returns-clause-value
returns-clause-value g c = λ p moved.
    subst (λ (q : Problem). IsBestValue q c.args.attr c.attr_value.result)
    (one_problem c.args.c.now [] (c.args.c.now.problem.rows ++ c.args.rows.now) c.extend.new.c.problem p c.show_corner.ensures.kept.corner c.in_ok-extend.ensures.problem moved)
    (best_value c.extend.new.c.problem c.extend.new.c.marks c.args.attr c.attr_value.result c.show_corner-2.ensures.kept.whole c.show_corner-2.ensures.kept.corner c.in_ok-extend.ensures.end.end
    (moved_stay c.args.c.now (c.args.c.now.problem.rows ++ c.args.rows.now) c.extend.new.c.problem c.args.attr c.in_ok-extend.ensures.problem c.requires.attr) c.attr_value.ensures)
