use Rattle.std.proofs.Common.{◌≡◌, List, subst, Any}
use Rattle.problem_core.specs.Layout.{Row}
use Rattle.layout_solver.proofs.Shown.{shown_error}
use Rattle.layout_solver.proofs.engine.Engine.error.Goals as goal

pub returns-clause-some : goal.returns-clause-some
returns-clause-some g c =
    shown_error c.self.inside.corner c.self.inside.values.0 c.self.inside.earlier c.args.self.now c.self.invariant c.self.view_is c.in_ok-held.held.now c.args.row c.error.result c.in_ok-held.ensures.some.0
    (subst (λ (rows : List Row). Any (λ r. r ≡ c.in_ok-held.held.now) rows) c.rows.ensures c.in_ok-held.ensures.some.1) c.error.ensures.error
