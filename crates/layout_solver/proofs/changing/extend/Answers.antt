use Rattle.std.proofs.Common.{◌++◌, [], false, sym, subst}
use Rattle.std.proofs.lemmas.Result.{IfErr-weaker, IfOk-weaker}
use Rattle.problem_core.specs.Layout.{Problem}
use Rattle.problem_core.specs.Corners.{NoNegativeValue}
use Rattle.cert_core.specs.Paths.{Path}
use Rattle.cert_core.specs.Stops.{IsStopOf}
use Rattle.corner_laws.specs.Lifts.{with_rows}
use Rattle.corner_view.specs.AddStops.{FromAdded}
use Rattle.corner_ends.specs.Runs.{IsRun}
use Rattle.layout_solver.specs.Starts.{IsMoved}
use Rattle.layout_solver.proofs.Starts.MovedProblems.{moved_path, moved_stop, moved_up, with_more}
use Rattle.layout_solver.proofs.changing.extend.Goals as goal

pub join-requires-clause-whole : goal.join-requires-clause-whole
join-requires-clause-whole g c =
    c.requires.whole (with_rows c.args.rows.now c.widen.new.c.problem)
    (with_more c.args.c.now c.args.attrs.now c.args.c.now.problem.rows c.args.rows.now c.widen.new.c.problem c.in_ok-widen.ensures.moved)

pub join-requires-clause-values : goal.join-requires-clause-values
join-requires-clause-values g c =
    subst (NoNegativeValue c.widen.new.c.problem) (sym c.in_ok-widen.ensures.marks)
    (moved_up c.args.c.now c.args.attrs.now c.widen.new.c.problem c.show_corner.ensures.kept c.in_ok-widen.ensures.moved c.show_corner-2.ensures.kept.whole c.requires.values)

pub returns-clause-path : goal.returns-clause-path
returns-clause-path g c =
    IfOk-weaker c.join.result (λ _. (path : Path) × IsRun false (with_rows c.args.rows.now c.widen.new.c.problem) (FromAdded (with_rows c.args.rows.now c.widen.new.c.problem) c.widen.new.c.marks c.args.rows.now []) c.args.budget c.join.new.c.marks path)
    (λ _. (p : Problem) → IsMoved c.args.c.now c.args.attrs.now (c.args.c.now.problem.rows ++ c.args.rows.now) p → (path : Path) × IsRun false p (FromAdded p c.args.c.now.marks c.args.rows.now []) c.args.budget c.join.new.c.marks path)
    (λ _ run. moved_path c.args.c.now c.widen.new.c c.args.attrs.now c.args.c.now.problem.rows c.args.c.now.marks c.show_corner.ensures.kept.corner c.in_ok-widen.ensures.moved c.in_ok-widen.ensures.marks c.args.rows.now c.args.budget c.join.new.c.marks run)
    c.join.ensures.path

pub returns-clause-stop : goal.returns-clause-stop
returns-clause-stop g c =
    IfErr-weaker c.join.result (IsStopOf false (with_rows c.args.rows.now c.widen.new.c.problem) c.widen.new.c.problem.rows (FromAdded (with_rows c.args.rows.now c.widen.new.c.problem) c.widen.new.c.marks c.args.rows.now) c.args.budget)
    (λ stop. (p : Problem) → IsMoved c.args.c.now c.args.attrs.now (c.args.c.now.problem.rows ++ c.args.rows.now) p → IsStopOf false p c.args.c.now.problem.rows (FromAdded p c.args.c.now.marks c.args.rows.now) c.args.budget stop)
    (λ stop h. moved_stop c.args.c.now c.widen.new.c c.args.attrs.now c.args.c.now.problem.rows c.args.c.now.marks c.show_corner.ensures.kept.corner c.in_ok-widen.ensures.moved c.in_ok-widen.ensures.marks c.args.rows.now c.args.budget stop h)
    c.join.ensures.stop
