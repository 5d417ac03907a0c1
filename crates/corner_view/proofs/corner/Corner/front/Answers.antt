use Rattle.std.proofs.Common.{IfNone, subst}
use Rattle.corner_view.specs.Seen.{CornerView}
use Rattle.corner_view.specs.Fronts.{HasNoFront}
use Rattle.corner_view.proofs.corner.Corner.front.Goals as goal

pub returns-clause-none : goal.returns-clause-none
returns-clause-none g c = subst (λ (v : CornerView). IfNone c.front.result (HasNoFront v.problem v.marks c.args.mark)) c.self.view_is c.front.ensures.none
