use Rattle.std.proofs.Common.{subst}
use Rattle.layout_solver.specs.Layouts.{Layout, solution_of}
use Rattle.corner_view.specs.Moves.{AreMovedSince}
use Rattle.layout_solver.specs.Moves.{HasValueOf}
use Rattle.layout_solver.proofs.Earlier.{earlier_some}
use Rattle.layout_solver.proofs.MovedValues.{engine_moved}
use Rattle.layout_solver.proofs.engine.Engine.moved.Goals as goal

pub moved-requires : goal.moved-requires
moved-requires g c = earlier_some c.self.inside.corner c.self.inside.values.0 c.self.inside.earlier c.args.self.now c.self.invariant c.self.view_is c.requires

pub returns : goal.returns
returns g c =
    subst (λ (l : Layout). AreMovedSince HasValueOf l.earlier (solution_of l) c.in_ok-moved.moved.items) c.self.view_is
    (engine_moved c.self.inside.corner c.self.inside.values.0 c.self.inside.earlier c.in_ok-moved.moved.items c.self.invariant c.in_ok-moved.ensures)
