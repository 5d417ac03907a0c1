use Rattle.std.proofs.Common.{subst}
use Rattle.problem_core.specs.Corners.{place}
use Rattle.corner_view.specs.Seen.{CornerView, HasValueAt}
use Rattle.corner_view.proofs.corner.Corner.value.Goals as goal

pub returns : goal.returns
returns g c = subst (λ (v : CornerView). HasValueAt v.problem v.marks (place c.args.mark) c.value.result) c.self.view_is c.value.ensures
