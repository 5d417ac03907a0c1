use Rattle.std.proofs.Common.{IfNone, subst}
use Rattle.corner_view.specs.Lows.{AreNotLow}
use Rattle.corner_view.specs.Seen.{CornerView}
use Rattle.corner.proofs.corner.CornerTableau.low_mark.Goals as goal

pub returns-clause-none : goal.returns-clause-none
returns-clause-none c = subst (λ (v : CornerView). IfNone c.low_mark.result (AreNotLow v.problem v.marks c.args.row)) c.self.view_is c.low_mark.ensures.none
