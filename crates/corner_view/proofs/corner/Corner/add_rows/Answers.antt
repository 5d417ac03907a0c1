use Rattle.std.proofs.Common.{subst, sym}
use Rattle.problem_core.specs.Corners.{NoNegativeValue}
use Rattle.corner_view.specs.Seen.{CornerView}
use Rattle.corner_view.proofs.corner.Corner.add_rows.Goals as goal

pub add_rows-requires-clause-values : goal.add_rows-requires-clause-values
add_rows-requires-clause-values g c = subst (λ (v : CornerView). NoNegativeValue v.problem v.marks) (sym c.self.view_is) c.requires.values
