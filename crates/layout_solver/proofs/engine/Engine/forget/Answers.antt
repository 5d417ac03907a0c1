use Rattle.std.proofs.Common.{rules}
use Rattle.layout_solver.proofs.Changes.{forgot_same, forgot_solved, forgot_values}
use Rattle.layout_solver.proofs.Earlier.{earlier_some, forgot_before, forgot_earlier}
use Rattle.layout_solver.proofs.engine.Engine.forget.Goals as goal

pub forget-requires : goal.forget-requires
forget-requires g c = earlier_some c.self.inside.corner c.self.inside.values.0 c.self.inside.earlier c.args.self.now c.self.invariant c.self.view_is c.requires

pub invariant_of-self-inside : goal.invariant_of-self-inside
invariant_of-self-inside g c = (
  forgot_values c.self.inside.corner c.self.inside.values.0 c.self.inside.earlier c.args.self.now c.self.invariant c.self.view_is c.forget.new.self c.forget.ensures.scene,
  (forgot_before c.self.inside.corner c.self.inside.values.0 c.self.inside.earlier c.args.self.now c.self.invariant c.self.view_is c.forget.new.self c.forget.ensures.scene c.forget.ensures.before, tt),
)

pub invariant_of-self : goal.invariant_of-self
invariant_of-self g c =
    forgot_solved c.self.inside.corner c.self.inside.values.0 c.self.inside.earlier c.args.self.now c.self.invariant c.self.view_is c.forget.new.self c.forget.ensures.scene c.forget.ensures.before c.forget.ensures.candidates
    _ _ (search rules)

pub returns-clause-solution : goal.returns-clause-solution
returns-clause-solution g c =
    forgot_same c.self.inside.corner c.self.inside.values.0 c.self.inside.earlier c.args.self.now c.self.invariant c.self.view_is c.forget.new.self c.forget.ensures.scene
    _ (search rules)

pub returns-clause-earlier : goal.returns-clause-earlier
returns-clause-earlier g c =
    forgot_earlier c.self.inside.corner c.self.inside.values.0 c.self.inside.earlier c.args.self.now c.self.invariant c.self.view_is c.forget.new.self c.forget.ensures.scene c.forget.ensures.before _
