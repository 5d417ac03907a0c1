use Rattle.std.proofs.Common.{◌≡◌, [], ◌++◌, subst}
use Rattle.std.proofs.lemmas.Result.{IfErr-weaker, IfOk-weaker}
use Rattle.problem_core.specs.Layout.{Problem}
use Rattle.corner_lines.specs.Shifts.{with_constant}
use Rattle.corner_ends.specs.Runs.{IsBestEnd}
use Rattle.layout_solver.specs.Layouts.{IsBestValue}
use Rattle.layout_solver.specs.Starts.{IsMoved}
use Rattle.layout_solver.specs.Trials.{IsChangeStop, IsTrialStop}
use Rattle.layout_solver.proofs.BestValues.{moved_stay}
use Rattle.layout_solver.proofs.Starts.MovedProblems.{one_problem}
use Rattle.layout_solver.proofs.Trials.{trial_stop}
use Rattle.layout_solver.proofs.trying.pushed.Goals as goal

pub shifted-requires-clause-near : goal.shifted-requires-clause-near
shifted-requires-clause-near g c = c.requires.near c.extend.new.c.problem c.in-Ok.ensures.problem

pub shifted-requires-clause-attr : goal.shifted-requires-clause-attr
shifted-requires-clause-attr g c = moved_stay c.args.c.now (c.args.c.now.problem.rows ++ c.args.rows.now) c.extend.new.c.problem c.args.attr c.in-Ok.ensures.problem c.requires.attr

pub returns-in-Ok-clause-value : goal.returns-in-Ok-clause-value
returns-in-Ok-clause-value g c =
    IfOk-weaker c.shifted.result (IsBestValue (with_constant c.args.to.row c.args.to.constant c.extend.new.c.problem) c.args.attr)
    (λ f. (p : Problem) → IsMoved c.args.c.now [] (c.args.c.now.problem.rows ++ c.args.rows.now) p → IsBestValue (with_constant c.args.to.row c.args.to.constant p) c.args.attr f)
    (λ f h p moved. subst (λ (q : Problem). IsBestValue (with_constant c.args.to.row c.args.to.constant q) c.args.attr f)
    (one_problem c.args.c.now [] (c.args.c.now.problem.rows ++ c.args.rows.now) c.extend.new.c.problem p c.show_corner.ensures.kept.corner c.in-Ok.ensures.problem moved) h)
    c.shifted.ensures.value

pub returns-in-Ok-clause-stop : goal.returns-in-Ok-clause-stop
returns-in-Ok-clause-stop g c =
    IfErr-weaker c.shifted.result (IsChangeStop c.extend.new.c.problem c.extend.new.c.marks c.args.to c.args.budget)
    (λ stop. (p : Problem) → IsMoved c.args.c.now [] (c.args.c.now.problem.rows ++ c.args.rows.now) p → IsTrialStop p c.args.c.now.problem.rows c.args.c.now.marks c.args.rows.now c.args.to c.args.budget stop)
    (λ stop h p moved.
    let same : c.extend.new.c.problem ≡ p = one_problem c.args.c.now [] (c.args.c.now.problem.rows ++ c.args.rows.now) c.extend.new.c.problem p c.show_corner.ensures.kept.corner c.in-Ok.ensures.problem moved in
    trial_stop p c.args.c.now.problem.rows c.args.c.now.marks c.args.rows.now c.args.to c.args.budget c.extend.new.c.marks stop (c.in-Ok.ensures.path p moved)
    (subst (λ (q : Problem). IsBestEnd q c.extend.new.c.marks) same c.in-Ok.ensures.end.end)
    (subst (λ (q : Problem). IsChangeStop q c.extend.new.c.marks c.args.to c.args.budget stop) same h))
    c.shifted.ensures.stop
