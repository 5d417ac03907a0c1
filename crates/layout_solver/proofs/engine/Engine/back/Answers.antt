use Rattle.std.proofs.Common.{rules}
use Rattle.layout_solver.proofs.Earlier.{back_before, back_is, back_solved, back_values, earlier_some}
use Rattle.layout_solver.proofs.engine.Engine.back.Goals as goal

pub back-requires : goal.back-requires
back-requires g c = earlier_some c.self.inside.corner c.self.inside.values.0 c.self.inside.earlier c.args.self.now c.self.invariant c.self.view_is c.requires

pub invariant_of-self-inside : goal.invariant_of-self-inside
invariant_of-self-inside g c = (
  back_values c.self.inside.corner c.self.inside.values.0 c.self.inside.earlier c.args.self.now c.self.invariant c.self.view_is c.back.new.self c.back.ensures.scene,
  (back_before c.self.inside.corner c.self.inside.values.0 c.self.inside.earlier c.args.self.now c.self.invariant c.self.view_is c.back.new.self c.back.ensures.scene, tt),
)

pub invariant_of-self : goal.invariant_of-self
invariant_of-self g c =
    back_solved c.self.inside.corner c.self.inside.values.0 c.self.inside.earlier c.args.self.now c.self.invariant c.self.view_is c.back.new.self c.back.ensures.scene
    _ (search rules) _ c.back.ensures.candidates

pub returns : goal.returns
returns g c =
    back_is c.self.inside.corner c.self.inside.values.0 c.self.inside.earlier c.args.self.now c.self.invariant c.self.view_is c.back.new.self c.back.ensures.scene
    _ (search rules) _
