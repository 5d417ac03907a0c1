use Rattle.std.proofs.Common.{subst, sym}
use Rattle.problem_core.specs.Layout.{HasStay}
use Rattle.layout_solver.specs.Layouts.{Layout}
use Rattle.layout_solver.proofs.Attributes.{found}
use Rattle.layout_solver.proofs.engine.Engine.value_at.Goals as goal

pub returns : goal.returns
returns g c =
    found c.self.inside.corner c.self.inside.values.0 c.self.inside.earlier c.args.self.now c.args.attr c.attr_value-value.result c.self.invariant c.self.view_is c.num.ensures.kept.lowest
    (subst (λ (l : Layout). HasStay l.problem.stays c.args.attr) (sym c.self.view_is) c.requires) c.attr_value-value.ensures
