use Rattle.std.proofs.Common.{sym, subst, ℕ}
use Rattle.problem_core.specs.Levels.{IsCostAt, IsLevelAt}
use Rattle.corner_view.specs.Seen.{CornerView}
use Rattle.corner.proofs.corner.CornerTableau.cost.Goals as goal

pub returns : goal.returns
returns c =
    subst (λ (v : CornerView). (k : ℕ) → IsLevelAt v.problem c.args.level k → IsCostAt v.problem v.marks k c.cost_at.result) c.self.view_is
    (λ k is. c.cost_at.ensures k (c.args.level, is, sym c.level_slot.ensures.value))
