use Rattle.std.proofs.Common.{subst}
use Rattle.problem_core.specs.Corners.{attr_column}
use Rattle.corner_view.specs.Seen.{CornerView, HasValueAt}
use Rattle.corner.proofs.corner.CornerTableau.attr_value.Goals as goal

pub returns : goal.returns
returns c = subst (λ (v : CornerView). HasValueAt v.problem v.marks (attr_column c.args.attr) c.attr_value.result) c.self.view_is c.attr_value.ensures
