use Rattle.std.proofs.Common.{subst}
use Rattle.corner_view.specs.Fronts.{AreFrontsOf}
use Rattle.corner_view.specs.Seen.{CornerView}
use Rattle.corner.proofs.corner.CornerTableau.fronts.Goals as goal

pub returns : goal.returns
returns c = subst (λ (v : CornerView). AreFrontsOf v.problem v.marks c.args.row c.fronts_of.result) c.self.view_is c.fronts_of.ensures
