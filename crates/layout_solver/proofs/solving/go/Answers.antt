use Rattle.std.proofs.Common.{◌≡◌, ◌<◌, ◌++◌, [], false, true, sym, ap₂, subst, All, AllPairs}
use Rattle.std.proofs.lemmas.Result.{IfErr-weaker, IfOk-weaker}
use Rattle.problem_core.specs.Layout.{HasStay, Problem}
use Rattle.cert_core.specs.Paths.{Path}
use Rattle.cert_core.specs.Stops.{IsStopOf}
use Rattle.stay_orders.specs.Orders.{fronted}
use Rattle.corner_view.specs.AddStops.{FromAdded}
use Rattle.corner_ends.specs.Runs.{FromHere, HasEnded, IsRun}
use Rattle.layout_solver.specs.declared.engine.Change.{Change}
use Rattle.layout_solver.specs.Engines.{IsLayoutAt, IsMarkedAs}
use Rattle.cert_core.specs.declared.stops.RunStop.{RunStop}
use Rattle.layout_solver.specs.Keeping.{NoConflict}
use Rattle.layout_solver.specs.Layouts.{Layout}
use Rattle.layout_solver.specs.Removals.{HasRemoved, IsRemoveStop, Leaving, without}
use Rattle.layout_solver.specs.Requests.{AreShifts, AreStays, CanSolve, IsRequestStop, IsSolvedBy, posed_by}
use Rattle.layout_solver.specs.Shifts.{shifted}
use Rattle.layout_solver.specs.Starts.{HasAdded, IsMoved}
use Rattle.layout_solver.proofs.KeptOrders.{kept_stays}
use Rattle.layout_solver.proofs.Ways.{leaving, err-both, ok-all, add_problem, add_room, add_solved, add_stop, add_whole, ended_err, ended_ok, keep_problem, keep_solved, keep_stop, remove_problem, remove_solved, remove_stop, shift_problem, shift_solved, shift_stop, stand_end, stand_problem, stand_solved, way_satisfied, way_values}
use Rattle.layout_solver.proofs.solving.go.Goals as goal

pub extend-requires-clause-room : goal.extend-requires-clause-room
extend-requires-clause-room g c =
    let (l, marked, can) = c.requires in
    add_room c.args.c.now c.args.request.now c.in-Add.attrs c.in-Add.rows c.in-Add.is c.deref.result.now c.deref-in-Add.result.now c.deref.ensures.value c.deref-in-Add.ensures.value l marked can

pub extend-requires-clause-values : goal.extend-requires-clause-values
extend-requires-clause-values g c = way_values c.args.c.now c.requires.0 c.requires.1

pub extend-requires-clause-whole : goal.extend-requires-clause-whole
extend-requires-clause-whole g c =
    let (l, marked, can) = c.requires in
    add_whole c.args.c.now c.args.request.now c.in-Add.attrs c.in-Add.rows c.in-Add.is c.deref.result.now c.deref-in-Add.result.now c.deref.ensures.value c.deref-in-Add.ensures.value l marked can

pub alter-requires-clause-values : goal.alter-requires-clause-values
alter-requires-clause-values g c = way_values c.args.c.now c.requires.0 c.requires.1

pub alter-requires-clause-rising : goal.alter-requires-clause-rising
alter-requires-clause-rising g c =
    let (l, marked, can) = c.requires in
    let are : AreShifts l.problem c.in-Shift.to.items = subst (CanSolve l) c.in-Shift.is can in
    subst (AllPairs (λ (a b : Change). a.row < b.row)) (sym c.deref-in-Shift.ensures.value) are.rising

pub shrink-requires-clause-values : goal.shrink-requires-clause-values
shrink-requires-clause-values g c = way_values c.args.c.now c.requires.0 c.requires.1

pub shrink-requires-clause-satisfied : goal.shrink-requires-clause-satisfied
shrink-requires-clause-satisfied g c = way_satisfied c.args.c.now c.requires.0 c.requires.1

pub reorder-requires-clause-held : goal.reorder-requires-clause-held
reorder-requires-clause-held g c =
    let (l, marked, can) = c.requires in
    let are : AreStays l.problem c.in-Keep.attrs.items = subst (CanSolve l) c.in-Keep.is can in
    kept_stays marked.from c.args.c.now marked.values marked.past l marked.is c.deref-in-Keep.result.now (subst (All (HasStay l.problem.stays)) (sym c.deref-in-Keep.ensures.value) are.held)

pub reorder-requires-clause-values : goal.reorder-requires-clause-values
reorder-requires-clause-values g c = way_values c.args.c.now c.requires.0 c.requires.1

pub reorder-requires-clause-solution : goal.reorder-requires-clause-solution
reorder-requires-clause-solution g c = way_satisfied c.args.c.now c.requires.0 c.requires.1

pub returns-in-Add-clause-problem : goal.returns-in-Add-clause-problem
returns-in-Add-clause-problem g c =
    ended_ok c.extend.result c.end_of.result
    (IsMoved c.args.c.now c.deref.result.now (c.args.c.now.problem.rows ++ c.deref-in-Add.result.now) c.extend.new.c.problem)
    ((l : Layout) → IsMarkedAs c.args.c.now l → c.extend.new.c.problem ≡ posed_by l c.args.request.now)
    c.end_of.ensures.ok
    (add_problem c.args.c.now c.args.request.now c.in-Add.attrs c.in-Add.rows c.in-Add.is c.deref.result.now c.deref-in-Add.result.now c.deref.ensures.value c.deref-in-Add.ensures.value c.extend.new.c.problem)
    c.extend.ensures.problem

pub returns-in-Add-clause-solved : goal.returns-in-Add-clause-solved
returns-in-Add-clause-solved g c =
    ended_ok c.extend.result c.end_of.result
    ((p : Problem) → IsMoved c.args.c.now c.deref.result.now (c.args.c.now.problem.rows ++ c.deref-in-Add.result.now) p → HasAdded p c.args.c.now.marks c.deref-in-Add.result.now c.args.budget c.extend.new.c.marks)
    ((l new : Layout) → IsMarkedAs c.args.c.now l → IsLayoutAt c.extend.new.c new → IsSolvedBy l c.args.request.now c.args.budget new)
    c.end_of.ensures.ok
    (λ run l new marked at.
    add_solved c.args.c.now c.args.request.now c.in-Add.attrs c.in-Add.rows c.in-Add.is c.deref.result.now c.deref-in-Add.result.now c.deref.ensures.value c.deref-in-Add.ensures.value c.args.budget c.extend.new.c.marks run l new marked at.corner)
    c.extend.ensures.path

pub returns-in-Add-clause-stop : goal.returns-in-Add-clause-stop
returns-in-Add-clause-stop g c =
    ended_err c.extend.result c.end_of.result
    (λ stop. (p : Problem) → IsMoved c.args.c.now c.deref.result.now (c.args.c.now.problem.rows ++ c.deref-in-Add.result.now) p
    → IsStopOf false p c.args.c.now.problem.rows (FromAdded p c.args.c.now.marks c.deref-in-Add.result.now) c.args.budget stop)
    (λ stop. (l : Layout) → IsMarkedAs c.args.c.now l → IsRequestStop l c.args.request.now c.args.budget stop)
    c.end_of.ensures.stop
    (λ stop still told.
    add_stop c.args.c.now c.args.request.now c.in-Add.attrs c.in-Add.rows c.in-Add.is c.deref.result.now c.deref-in-Add.result.now c.deref.ensures.value c.deref-in-Add.ensures.value c.args.budget stop still told)
    c.extend.ensures.stop

pub returns-in-Shift-clause-problem : goal.returns-in-Shift-clause-problem
returns-in-Shift-clause-problem g c =
    ended_ok c.alter.result c.end_of-in-Shift.result
    (IsMoved c.args.c.now [] (shifted c.deref-in-Shift.result.now c.args.c.now.problem.rows) c.alter.new.c.problem)
    ((l : Layout) → IsMarkedAs c.args.c.now l → c.alter.new.c.problem ≡ posed_by l c.args.request.now)
    c.end_of-in-Shift.ensures.ok
    (shift_problem c.args.c.now c.args.request.now c.in-Shift.to c.in-Shift.is c.deref-in-Shift.result.now c.deref-in-Shift.ensures.value c.alter.new.c.problem)
    c.alter.ensures.problem

pub returns-in-Shift-clause-solved : goal.returns-in-Shift-clause-solved
returns-in-Shift-clause-solved g c =
    ended_ok c.alter.result c.end_of-in-Shift.result
    ((p : Problem) → IsMoved c.args.c.now [] (shifted c.deref-in-Shift.result.now c.args.c.now.problem.rows) p → (path : Path) × IsRun true p (FromHere c.args.c.now.marks []) c.args.budget c.alter.new.c.marks path)
    ((l new : Layout) → IsMarkedAs c.args.c.now l → IsLayoutAt c.alter.new.c new → IsSolvedBy l c.args.request.now c.args.budget new)
    c.end_of-in-Shift.ensures.ok
    (λ run l new marked at.
    shift_solved c.args.c.now c.args.request.now c.in-Shift.to c.in-Shift.is c.deref-in-Shift.result.now c.deref-in-Shift.ensures.value c.args.budget c.alter.new.c.marks run l new marked at.corner)
    c.alter.ensures.path

pub returns-in-Shift-clause-stop : goal.returns-in-Shift-clause-stop
returns-in-Shift-clause-stop g c =
    ended_err c.alter.result c.end_of-in-Shift.result
    (λ stop. (p : Problem) → IsMoved c.args.c.now [] (shifted c.deref-in-Shift.result.now c.args.c.now.problem.rows) p
    → IsStopOf true p c.args.c.now.problem.rows (FromHere c.args.c.now.marks) c.args.budget stop)
    (λ stop. (l : Layout) → IsMarkedAs c.args.c.now l → IsRequestStop l c.args.request.now c.args.budget stop)
    c.end_of-in-Shift.ensures.stop
    (shift_stop c.args.c.now c.args.request.now c.in-Shift.to c.in-Shift.is c.deref-in-Shift.result.now c.deref-in-Shift.ensures.value c.args.budget)
    c.alter.ensures.stop

pub returns-in-Remove-clause-problem : goal.returns-in-Remove-clause-problem
returns-in-Remove-clause-problem g c =
    let what : Leaving = record { rows = c.deref-in-Remove.result.now; attrs = c.deref-in-Remove-2.result.now } in
    let are : what ≡ record { rows = c.in-Remove.rows.items; attrs = c.in-Remove.attrs.items } = ap₂ leaving c.deref-in-Remove.ensures.value c.deref-in-Remove-2.ensures.value in
    IfOk-weaker c.shrink.result
    (λ _. (p : Problem) → IsMoved c.args.c.now [] c.args.c.now.problem.rows p → c.shrink.new.c.problem ≡ without what p)
    (λ _. (l : Layout) → IsMarkedAs c.args.c.now l → c.shrink.new.c.problem ≡ posed_by l c.args.request.now)
    (λ _ told. remove_problem c.args.c.now c.args.request.now c.in-Remove.rows c.in-Remove.attrs c.in-Remove.is what are c.shrink.new.c.problem told)
    c.shrink.ensures.problem

pub returns-in-Remove-clause-solved : goal.returns-in-Remove-clause-solved
returns-in-Remove-clause-solved g c =
    let what : Leaving = record { rows = c.deref-in-Remove.result.now; attrs = c.deref-in-Remove-2.result.now } in
    let are : what ≡ record { rows = c.in-Remove.rows.items; attrs = c.in-Remove.attrs.items } = ap₂ leaving c.deref-in-Remove.ensures.value c.deref-in-Remove-2.ensures.value in
    IfOk-weaker c.shrink.result
    (λ _. (p : Problem) → IsMoved c.args.c.now [] c.args.c.now.problem.rows p → HasRemoved p c.args.c.now.marks what c.args.budget c.shrink.new.c.marks)
    (λ _. (l new : Layout) → IsMarkedAs c.args.c.now l → IsLayoutAt c.shrink.new.c new → IsSolvedBy l c.args.request.now c.args.budget new)
    (λ _ run l new marked at. remove_solved c.args.c.now c.args.request.now c.in-Remove.rows c.in-Remove.attrs c.in-Remove.is what are c.args.budget c.shrink.new.c.marks run l new marked at.corner)
    c.shrink.ensures.path

pub returns-in-Remove-clause-stop : goal.returns-in-Remove-clause-stop
returns-in-Remove-clause-stop g c =
    let what : Leaving = record { rows = c.deref-in-Remove.result.now; attrs = c.deref-in-Remove-2.result.now } in
    let are : what ≡ record { rows = c.in-Remove.rows.items; attrs = c.in-Remove.attrs.items } = ap₂ leaving c.deref-in-Remove.ensures.value c.deref-in-Remove-2.ensures.value in
    IfErr-weaker c.shrink.result
    (λ stop. (p : Problem) → IsMoved c.args.c.now [] c.args.c.now.problem.rows p → IsRemoveStop p c.args.c.now.marks what c.args.budget stop)
    (λ stop. (l : Layout) → IsMarkedAs c.args.c.now l → IsRequestStop l c.args.request.now c.args.budget stop)
    (remove_stop c.args.c.now c.args.request.now c.in-Remove.rows c.in-Remove.attrs c.in-Remove.is what are c.args.budget)
    c.shrink.ensures.stop

pub returns-in-Keep-clause-problem : goal.returns-in-Keep-clause-problem
returns-in-Keep-clause-problem g c =
    ended_ok c.reorder.result c.end_of-in-Keep.result
    ((p : Problem) → IsMoved c.args.c.now [] c.args.c.now.problem.rows p → c.reorder.new.c.problem ≡ fronted c.deref-in-Keep.result.now p)
    ((l : Layout) → IsMarkedAs c.args.c.now l → c.reorder.new.c.problem ≡ posed_by l c.args.request.now)
    c.end_of-in-Keep.ensures.ok
    (keep_problem c.args.c.now c.args.request.now c.in-Keep.attrs c.in-Keep.is c.deref-in-Keep.result.now c.deref-in-Keep.ensures.value c.reorder.new.c.problem)
    c.reorder.ensures.problem

pub returns-in-Keep-clause-solved : goal.returns-in-Keep-clause-solved
returns-in-Keep-clause-solved g c =
    let before : c.reorder.new.c.before ≡ c.args.c.now.before = c.reorder.ensures.before in
    let Told : Type 0 = (p : Problem) → IsMoved c.args.c.now [] c.args.c.now.problem.rows p → c.reorder.new.c.problem ≡ fronted c.deref-in-Keep.result.now p in
    let Ran : Type 0 = (p : Problem) → IsMoved c.args.c.now [] c.args.c.now.problem.rows p → HasAdded (fronted c.deref-in-Keep.result.now p) c.args.c.now.marks [] c.args.budget c.reorder.new.c.marks in
    ended_ok c.reorder.result c.end_of-in-Keep.result
    (Told × HasEnded c.reorder.new.c × Ran)
    ((l new : Layout) → IsMarkedAs c.args.c.now l → IsLayoutAt c.reorder.new.c new → IsSolvedBy l c.args.request.now c.args.budget new)
    c.end_of-in-Keep.ensures.ok
    (λ (told, ended, run) l new marked at.
    keep_solved c.args.c.now c.args.request.now c.in-Keep.attrs c.in-Keep.is c.deref-in-Keep.result.now c.deref-in-Keep.ensures.value c.args.budget c.reorder.new.c before told ended.end run l new marked at)
    (ok-all c.reorder.result Told (HasEnded c.reorder.new.c) Ran c.reorder.ensures.problem c.reorder.ensures.end c.reorder.ensures.path)

pub returns-in-Keep-clause-stop : goal.returns-in-Keep-clause-stop
returns-in-Keep-clause-stop g c =
    let Told : RunStop → Type 0 = λ stop. (p : Problem) → IsMoved c.args.c.now [] c.args.c.now.problem.rows p
    → IsStopOf false (fronted c.deref-in-Keep.result.now p) c.args.c.now.problem.rows (FromAdded (fronted c.deref-in-Keep.result.now p) c.args.c.now.marks []) c.args.budget stop in
    ended_err c.reorder.result c.end_of-in-Keep.result
    (λ stop. Told stop × NoConflict stop)
    (λ stop. (l : Layout) → IsMarkedAs c.args.c.now l → IsRequestStop l c.args.request.now c.args.budget stop)
    c.end_of-in-Keep.ensures.stop
    (λ stop still (told, free).
    keep_stop c.args.c.now c.args.request.now c.in-Keep.attrs c.in-Keep.is c.deref-in-Keep.result.now c.deref-in-Keep.ensures.value c.args.budget stop still free told)
    (err-both c.reorder.result Told NoConflict c.reorder.ensures.stop c.reorder.ensures.free)

pub returns-in_ok-stand-in-Stand-clause-end : goal.returns-in_ok-stand-in-Stand-clause-end
returns-in_ok-stand-in-Stand-clause-end g c =
    stand_end c.args.c.now c.args.request.now c.in-Stand.is c.stand.new.self c.in_ok-stand-in-Stand.ensures.stood c.in_ok-stand-in-Stand.ensures.marks c.show_corner-in-Stand.ensures.kept
    c.requires.0 c.requires.1 c.in_ok-stand-in-Stand.ensures.candidates

pub returns-in_ok-stand-in-Stand-clause-problem : goal.returns-in_ok-stand-in-Stand-clause-problem
returns-in_ok-stand-in-Stand-clause-problem g c =
    stand_problem c.args.c.now c.args.request.now c.in-Stand.is c.stand.new.self c.in_ok-stand-in-Stand.ensures.stood c.in_ok-stand-in-Stand.ensures.marks c.show_corner-in-Stand.ensures.kept

pub returns-in_ok-stand-in-Stand-clause-solved : goal.returns-in_ok-stand-in-Stand-clause-solved
returns-in_ok-stand-in-Stand-clause-solved g c =
    stand_solved c.args.c.now c.args.request.now c.in-Stand.is c.stand.new.self c.in_ok-stand-in-Stand.ensures.stood c.in_ok-stand-in-Stand.ensures.marks c.show_corner-in-Stand.ensures.kept c.args.budget
