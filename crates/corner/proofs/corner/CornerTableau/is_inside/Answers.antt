use Rattle.std.proofs.Common.{◌≡◌, ◌↔◌, true, subst}
use Rattle.problem_core.specs.Corners.{IsIn, place}
use Rattle.corner_view.specs.Seen.{CornerView}
use Rattle.corner.proofs.corner.CornerTableau.is_inside.Goals as goal

pub returns : goal.returns
returns c = subst (λ (v : CornerView). (c.is_inside.result ≡ true) ↔ IsIn (place c.args.mark) v.marks) c.self.view_is c.is_inside.ensures
