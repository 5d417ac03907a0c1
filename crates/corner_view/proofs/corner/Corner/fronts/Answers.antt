use Rattle.std.proofs.Common.{subst}
use Rattle.corner_view.specs.Fronts.{AreFrontsOf}
use Rattle.corner_view.specs.Seen.{CornerView}
use Rattle.corner_view.proofs.corner.Corner.fronts.Goals as goal

pub returns : goal.returns
returns g c = subst (λ (v : CornerView). AreFrontsOf v.problem v.marks c.args.row c.fronts.result) c.self.view_is c.fronts.ensures
