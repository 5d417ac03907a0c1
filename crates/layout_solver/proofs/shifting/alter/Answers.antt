use Rattle.std.proofs.Common.{◌≡◌, [], ◌∙◌, true}
use Rattle.std.proofs.lemmas.Result.{IfErr-weaker, IfOk-weaker, err_from_is_err_and}
use Rattle.problem_core.specs.Layout.{Problem}
use Rattle.cert_core.specs.Paths.{Path}
use Rattle.cert_core.specs.Stops.{IsStopOf}
use Rattle.corner_ends.specs.Runs.{FromHere, IsRun}
use Rattle.layout_solver.specs.Shifts.{shifted}
use Rattle.layout_solver.specs.Starts.{IsMoved}
use Rattle.layout_solver.proofs.Shifts.Alterations.{altered, altered_stop, restored_path, restored_stop, stood_low}
use Rattle.layout_solver.proofs.Shifts.ShiftedProblems.{columns_stood, columns_there, near_rows, still_newest}
use Rattle.layout_solver.proofs.shifting.alter.Goals as goal

pub shift_all-requires-clause-newest : goal.shift_all-requires-clause-newest
shift_all-requires-clause-newest g c = still_newest c.args.c.now c.stand.new.self c.in_ok-stand.ensures.before c.in_ok-stand.ensures.marks c.requires.newest

pub shift_all-requires-clause-columns : goal.shift_all-requires-clause-columns
shift_all-requires-clause-columns g c = columns_stood c.args.c.now c.stand.new.self c.in_ok-stand.ensures.stood c.in_ok-stand.ensures.marks c.requires.columns

pub shift_all-requires-clause-near : goal.shift_all-requires-clause-near
shift_all-requires-clause-near g c = near_rows c.args.to.now c.args.c.now.problem c.stand.new.self.problem c.in_ok-stand.ensures.stood.rows c.requires.near

pub shift_all-requires-clause-low : goal.shift_all-requires-clause-low
shift_all-requires-clause-low g c =
    rw c.in_ok-low.ensures
    (stood_low c.args.c.now c.stand.new.self c.args.to.now c.show_corner.ensures.kept.corner c.in_ok-stand.ensures.stood c.show_corner-2.ensures.kept.whole c.in_ok-stand.ensures.marks c.show_corner.ensures.kept c.show_corner-2.ensures.kept c.requires.values)

pub restore-requires-clause-columns : goal.restore-requires-clause-columns
restore-requires-clause-columns g c =
    columns_there c.stand.new.self c.shift_all.new.c c.args.to.now c.in_ok-shift_all.ensures.problem c.in_ok-shift_all.ensures.marks
    (columns_stood c.args.c.now c.stand.new.self c.in_ok-stand.ensures.stood c.in_ok-stand.ensures.marks c.requires.columns)

pub returns-clause-problem : goal.returns-clause-problem
returns-clause-problem g c =
    IfOk-weaker c.restore.result (λ _. c.restore.new.c.problem ≡ c.shift_all.new.c.problem) (λ _. IsMoved c.args.c.now [] (shifted c.args.to.now c.args.c.now.problem.rows) c.restore.new.c.problem)
    (λ _ e. altered c.args.c.now c.stand.new.self c.args.to.now c.show_corner.ensures.kept.corner c.in_ok-stand.ensures.stood c.show_corner-2.ensures.kept.whole c.in_ok-stand.ensures.marks c.restore.new.c.problem (e ∙ c.in_ok-shift_all.ensures.problem))
    c.restore.ensures.problem

pub returns-clause-path : goal.returns-clause-path
returns-clause-path g c =
    IfOk-weaker c.restore.result (λ _. (path : Path) × IsRun true c.shift_all.new.c.problem (λ at. at ≡ c.shift_all.new.c.marks) c.args.budget c.restore.new.c.marks path)
    (λ _. (p : Problem) → IsMoved c.args.c.now [] (shifted c.args.to.now c.args.c.now.problem.rows) p → (path : Path) × IsRun true p (FromHere c.args.c.now.marks []) c.args.budget c.restore.new.c.marks path)
    (λ _ run. restored_path c.args.c.now c.stand.new.self c.args.to.now c.show_corner.ensures.kept.corner c.in_ok-stand.ensures.stood c.show_corner-2.ensures.kept.whole c.in_ok-stand.ensures.marks c.shift_all.new.c c.in_ok-shift_all.ensures.problem c.in_ok-shift_all.ensures.marks c.args.budget c.restore.new.c.marks run)
    c.restore.ensures.path

pub returns-clause-stop : goal.returns-clause-stop
returns-clause-stop g c =
    IfErr-weaker c.restore.result (IsStopOf true c.shift_all.new.c.problem c.shift_all.new.c.problem.rows (FromHere c.shift_all.new.c.marks) c.args.budget)
    (λ stop. (p : Problem) → IsMoved c.args.c.now [] (shifted c.args.to.now c.args.c.now.problem.rows) p → IsStopOf true p c.args.c.now.problem.rows (FromHere c.args.c.now.marks) c.args.budget stop)
    (λ stop h. restored_stop c.args.c.now c.stand.new.self c.args.to.now c.show_corner.ensures.kept.corner c.in_ok-stand.ensures.stood c.show_corner-2.ensures.kept.whole c.in_ok-stand.ensures.marks c.shift_all.new.c c.in_ok-shift_all.ensures.problem c.in_ok-shift_all.ensures.marks c.args.budget stop h)
    c.restore.ensures.stop

pub returns-in_err-shift_all-clause-stop : goal.returns-in_err-shift_all-clause-stop
returns-in_err-shift_all-clause-stop g c =
    let p = err_from_is_err_and c.from_residual-in_err-shift_all.result c.from_residual-in_err-shift_all.ensures.1 in
    rw (p.1, p.2)
    (altered_stop c.args.c.now c.stand.new.self c.args.to.now c.show_corner.ensures.kept.corner c.in_ok-stand.ensures.stood c.show_corner-2.ensures.kept.whole c.in_ok-stand.ensures.marks c.args.budget c.in_err-shift_all.field-0.0 c.in_err-shift_all.ensures.stop)
