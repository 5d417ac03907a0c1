use Rattle.std.proofs.Common.{◌≡◌, ◌∙◌, [], false}
use Rattle.std.proofs.lemmas.Result.{IfErr-weaker, IfOk-weaker}
use Rattle.problem_core.specs.Layout.{Problem}
use Rattle.cert_core.specs.Stops.{IsStopOf}
use Rattle.stay_orders.specs.Orders.{fronted}
use Rattle.corner_view.specs.AddStops.{FromAdded}
use Rattle.corner_ends.specs.Runs.{FromHere, HasRunBetween}
use Rattle.layout_solver.specs.Keeping.{NoConflict}
use Rattle.layout_solver.specs.Starts.{HasAdded, IsMoved}
use Rattle.layout_solver.proofs.Reordered.{one_order, order_path, order_satisfied, order_stop, order_values, satisfied_free, stood_held}
use Rattle.layout_solver.proofs.keeping.reorder.Goals as goal

pub put_first-requires-clause-held : goal.put_first-requires-clause-held
put_first-requires-clause-held g c = stood_held c.args.c.now c.stand.new.self c.args.attrs.now c.in_ok-stand.ensures.stood c.requires.held

pub settle-requires-clause-values : goal.settle-requires-clause-values
settle-requires-clause-values g c =
    order_values c.args.c.now c.stand.new.self c.put_first.new.self c.args.attrs.now c.show_corner.ensures.kept c.in_ok-stand.ensures.stood c.show_corner-2.ensures.kept.whole c.in_ok-stand.ensures.marks
    c.in_ok-put_first.ensures.problem c.in_ok-put_first.ensures.marks c.requires.values

pub returns-clause-problem : goal.returns-clause-problem
returns-clause-problem g c =
    IfOk-weaker c.settle.result (λ _. c.settle.new.c.problem ≡ c.put_first.new.self.problem)
    (λ _. (p : Problem) → IsMoved c.args.c.now [] c.args.c.now.problem.rows p → c.settle.new.c.problem ≡ fronted c.args.attrs.now p)
    (λ _ e p m. e ∙ one_order c.args.c.now c.stand.new.self c.put_first.new.self c.args.attrs.now c.show_corner.ensures.kept c.in_ok-stand.ensures.stood c.show_corner-2.ensures.kept.whole c.in_ok-stand.ensures.marks
    c.in_ok-put_first.ensures.problem c.in_ok-put_first.ensures.marks p m) c.settle.ensures.problem

pub returns-clause-path : goal.returns-clause-path
returns-clause-path g c =
    IfOk-weaker c.settle.result (λ _. HasRunBetween false c.put_first.new.self.problem c.put_first.new.self.marks c.args.budget c.settle.new.c.marks)
    (λ _. (p : Problem) → IsMoved c.args.c.now [] c.args.c.now.problem.rows p → HasAdded (fronted c.args.attrs.now p) c.args.c.now.marks [] c.args.budget c.settle.new.c.marks)
    (λ _. order_path c.args.c.now c.stand.new.self c.put_first.new.self c.args.attrs.now c.show_corner.ensures.kept c.in_ok-stand.ensures.stood c.show_corner-2.ensures.kept.whole c.in_ok-stand.ensures.marks
    c.in_ok-put_first.ensures.problem c.in_ok-put_first.ensures.marks c.show_corner-3.ensures.kept c.args.budget c.settle.new.c.marks) c.settle.ensures.path

pub returns-clause-stop : goal.returns-clause-stop
returns-clause-stop g c =
    IfErr-weaker c.settle.result (IsStopOf false c.put_first.new.self.problem c.put_first.new.self.problem.rows (FromHere c.put_first.new.self.marks) c.args.budget)
    (λ stop. (p : Problem) → IsMoved c.args.c.now [] c.args.c.now.problem.rows p → IsStopOf false (fronted c.args.attrs.now p) c.args.c.now.problem.rows (FromAdded (fronted c.args.attrs.now p) c.args.c.now.marks []) c.args.budget stop)
    (order_stop c.args.c.now c.stand.new.self c.put_first.new.self c.args.attrs.now c.show_corner.ensures.kept c.in_ok-stand.ensures.stood c.show_corner-2.ensures.kept.whole c.in_ok-stand.ensures.marks
    c.in_ok-put_first.ensures.problem c.in_ok-put_first.ensures.marks c.show_corner-3.ensures.kept c.args.budget) c.settle.ensures.stop

pub returns-clause-free : goal.returns-clause-free
returns-clause-free g c =
    let (x, satisfied) = c.requires.solution in
    IfErr-weaker c.settle.result (IsStopOf false c.put_first.new.self.problem c.put_first.new.self.problem.rows (FromHere c.put_first.new.self.marks) c.args.budget) NoConflict
    (satisfied_free c.put_first.new.self.problem c.put_first.new.self.problem.rows (FromHere c.put_first.new.self.marks) c.args.budget x c.show_corner-3.ensures.kept.whole
    (order_satisfied c.args.c.now c.stand.new.self c.put_first.new.self c.args.attrs.now c.show_corner.ensures.kept c.in_ok-stand.ensures.stood c.show_corner-2.ensures.kept.whole c.in_ok-stand.ensures.marks
    c.in_ok-put_first.ensures.problem c.in_ok-put_first.ensures.marks x satisfied)) c.settle.ensures.stop
