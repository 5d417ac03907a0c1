use Rattle.std.proofs.Common.{IfNone, IfSome, subst}
use Rattle.corner_view.specs.Seen.{CornerView}
use Rattle.corner_view.specs.Fronts.{HasNoFront, IsFrontOf}
use Rattle.corner.proofs.corner.CornerTableau.front.Goals as goal

pub returns-clause-some : goal.returns-clause-some
returns-clause-some c = subst (λ (v : CornerView). IfSome c.front_of.result (IsFrontOf v.problem v.marks c.args.mark)) c.self.view_is c.front_of.ensures.some

pub returns-clause-none : goal.returns-clause-none
returns-clause-none c = subst (λ (v : CornerView). IfNone c.front_of.result (HasNoFront v.problem v.marks c.args.mark)) c.self.view_is c.front_of.ensures.none
