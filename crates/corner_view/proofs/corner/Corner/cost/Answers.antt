use Rattle.std.proofs.Common.{ℕ, subst}
use Rattle.problem_core.specs.Levels.{IsCostAt, IsLevelAt}
use Rattle.corner_view.specs.Seen.{CornerView}
use Rattle.corner_view.proofs.corner.Corner.cost.Goals as goal

pub returns : goal.returns
returns g c = subst (λ (v : CornerView). (k : ℕ) → IsLevelAt v.problem c.args.level k → IsCostAt v.problem v.marks k c.cost.result) c.self.view_is c.cost.ensures
