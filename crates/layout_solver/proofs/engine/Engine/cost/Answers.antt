use Rattle.std.proofs.Common.{ℕ, sym, subst}
use Rattle.problem_core.specs.Levels.{IsLevelAt}
use Rattle.layout_solver.specs.Layouts.{Layout}
use Rattle.layout_solver.proofs.Shown.{shown_cost}
use Rattle.layout_solver.proofs.engine.Engine.cost.Goals as goal

pub returns-then-has_level-clause-value : goal.returns-then-has_level-clause-value
returns-then-has_level-clause-value g c = shown_cost c.self.inside.corner c.self.inside.values.0 c.self.inside.earlier c.args.self.now c.self.invariant c.self.view_is c.args.level c.cost.result c.cost.ensures

pub returns-then-has_level-clause-none : goal.returns-then-has_level-clause-none
returns-then-has_level-clause-none g c = λ none.
    let is = c.has_level.ensures.yes c.self.inside.corner.problem (sym c.stays.ensures) c.if-has_level.true in
    absurd (subst (λ (l : Layout). (k : ℕ) → IsLevelAt l.problem c.args.level k → ⊥) (sym c.self.view_is) none is.0 is.1)
