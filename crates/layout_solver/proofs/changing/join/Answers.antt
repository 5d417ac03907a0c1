use Rattle.std.proofs.Common.{◌≡◌, [], false}
use Rattle.std.proofs.lemmas.Result.{IfErr-weaker, IfOk-weaker}
use Rattle.cert_core.specs.Paths.{Path}
use Rattle.cert_core.specs.Stops.{IsStopOf}
use Rattle.corner_laws.specs.Lifts.{with_rows}
use Rattle.corner_view.specs.AddStops.{FromAdded}
use Rattle.corner_ends.specs.Runs.{FromHere, IsRun}
use Rattle.layout_solver.proofs.Starts.Beginnings.{HasJoined, path_there, stop_there, values_there}
use Rattle.layout_solver.proofs.changing.join.Goals as goal

pub settle-requires-clause-values : goal.settle-requires-clause-values
settle-requires-clause-values g c =
    values_there c.args.c.now c.add_rows.new.self c.args.rows.now
    (record { whole = c.requires.whole; kept = c.show_corner.ensures.kept; values = c.requires.values; problem = c.in_ok-add_rows.ensures.problem; begins = c.in_ok-add_rows.ensures.marks; ordered = c.show_corner-2.ensures.kept.ordered })

pub returns-clause-path : goal.returns-clause-path
returns-clause-path g c =
    let joined : HasJoined c.args.c.now c.add_rows.new.self c.args.rows.now =
    record { whole = c.requires.whole; kept = c.show_corner.ensures.kept; values = c.requires.values; problem = c.in_ok-add_rows.ensures.problem; begins = c.in_ok-add_rows.ensures.marks; ordered = c.show_corner-2.ensures.kept.ordered } in
    IfOk-weaker c.settle.result (λ _. (path : Path) × IsRun false c.add_rows.new.self.problem (λ at. at ≡ c.add_rows.new.self.marks) c.args.budget c.settle.new.c.marks path)
    (λ _. (path : Path) × IsRun false (with_rows c.args.rows.now c.args.c.now.problem) (FromAdded (with_rows c.args.rows.now c.args.c.now.problem) c.args.c.now.marks c.args.rows.now []) c.args.budget c.settle.new.c.marks path)
    (λ _ run. path_there c.args.c.now c.add_rows.new.self c.args.rows.now c.args.budget c.settle.new.c.marks joined run) c.settle.ensures.path

pub returns-clause-stop : goal.returns-clause-stop
returns-clause-stop g c =
    let joined : HasJoined c.args.c.now c.add_rows.new.self c.args.rows.now =
    record { whole = c.requires.whole; kept = c.show_corner.ensures.kept; values = c.requires.values; problem = c.in_ok-add_rows.ensures.problem; begins = c.in_ok-add_rows.ensures.marks; ordered = c.show_corner-2.ensures.kept.ordered } in
    IfErr-weaker c.settle.result (IsStopOf false c.add_rows.new.self.problem c.add_rows.new.self.problem.rows (FromHere c.add_rows.new.self.marks) c.args.budget)
    (IsStopOf false (with_rows c.args.rows.now c.args.c.now.problem) c.args.c.now.problem.rows (FromAdded (with_rows c.args.rows.now c.args.c.now.problem) c.args.c.now.marks c.args.rows.now) c.args.budget)
    (λ stop h. stop_there c.args.c.now c.add_rows.new.self c.args.rows.now c.args.budget stop joined h) c.settle.ensures.stop
