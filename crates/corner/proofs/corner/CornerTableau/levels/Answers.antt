use Rattle.std.proofs.Common.{All, AllPairs, subst}
use Rattle.corner_view.specs.Seen.{CornerView, IsInUse, IsStronger}
use Rattle.corner.proofs.corner.CornerTableau.levels.Goals as goal

pub returns-clause-used : goal.returns-clause-used
returns-clause-used c = subst (λ (v : CornerView). All (IsInUse v.problem) c.used.new.out.items) c.self.view_is c.in_ok-used.ensures.used

pub returns-clause-order : goal.returns-clause-order
returns-clause-order c = subst (λ (v : CornerView). AllPairs (IsStronger v.problem) c.used.new.out.items) c.self.view_is c.in_ok-used.ensures.order
