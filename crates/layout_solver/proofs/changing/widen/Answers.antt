use Rattle.std.proofs.Common.{◌≡◌, ◌++◌}
use Rattle.std.proofs.lemmas.Result.{IfOk-weaker}
use Rattle.layout_solver.specs.Layouts.{stays_at, zeros}
use Rattle.layout_solver.specs.Starts.{IsMoved}
use Rattle.layout_solver.proofs.Starts.MovedProblems.{stood_moved}
use Rattle.layout_solver.proofs.changing.widen.Goals as goal

pub returns-clause-moved : goal.returns-clause-moved
returns-clause-moved g c =
    IfOk-weaker c.add_attrs.result (λ _. c.add_attrs.new.c.problem ≡ record { rows = c.stand.new.self.problem.rows; stays = c.stand.new.self.problem.stays ++ stays_at (zeros c.args.attrs.now) })
    (λ _. IsMoved c.args.c.now c.args.attrs.now c.args.c.now.problem.rows c.add_attrs.new.c.problem)
    (λ _ e. stood_moved c.args.c.now c.stand.new.self c.args.attrs.now c.add_attrs.new.c.problem c.in_ok-stand.ensures.stood c.show_corner.ensures.kept.whole e) c.add_attrs.ensures.problem
