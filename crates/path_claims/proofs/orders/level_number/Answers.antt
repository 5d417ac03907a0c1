use Rattle.std.proofs.Common.{ℕ, IfNone, sym, subst}
use Rattle.problem_core.specs.declared.parts.Level.{Level}
use Rattle.problem_core.specs.Levels.{IsLevelAt}
use Rattle.path_claims.proofs.orders.level_number.Goals as goal

pub returns-in-Priority-clause-none : goal.returns-in-Priority-clause-none
returns-in-Priority-clause-none c = subst (λ (l : Level). IfNone c.priority_number.result ((k : ℕ) → IsLevelAt c.args.p.now l k → ⊥)) (sym c.in-Priority.is) c.priority_number.ensures.none

pub returns-in-Stay-clause-none : goal.returns-in-Stay-clause-none
returns-in-Stay-clause-none c = subst (λ (l : Level). IfNone c.stay_number.result ((k : ℕ) → IsLevelAt c.args.p.now l k → ⊥)) (sym c.in-Stay.is) c.stay_number.ensures.none
