use Rattle.std.proofs.Common.{subst}
use Rattle.problem_core.specs.Corners.{place}
use Rattle.corner_view.specs.Seen.{CornerView, HasValueAt}
use Rattle.corner.proofs.corner.CornerTableau.value.Goals as goal

pub returns : goal.returns
returns c = subst (λ (v : CornerView). HasValueAt v.problem v.marks (place c.args.mark) c.mark_value.result) c.self.view_is c.mark_value.ensures
