use Rattle.std.proofs.Common.{All, IfOk, subst}
use Rattle.corner_view.specs.Seen.{CornerView, IsInUse}
use Rattle.corner_view.proofs.corner.Corner.levels.Goals as goal

pub returns-clause-used : goal.returns-clause-used
returns-clause-used g c = subst (λ (v : CornerView). IfOk c.levels.result (λ levels. All (IsInUse v.problem) levels.items)) c.self.view_is c.levels.ensures.used
