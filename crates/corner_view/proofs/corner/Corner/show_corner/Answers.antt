use Rattle.std.proofs.Common.{All, subst}
use Rattle.corner_view.specs.Seen.{AreCandidates, CornerView, IsNamed}
use Rattle.corner_view.proofs.corner.Corner.show_corner.Goals as goal

pub returns-clause-candidates : goal.returns-clause-candidates
returns-clause-candidates g c = subst (λ (v : CornerView). AreCandidates v.problem v.marks v.candidates) c.self.view_is c.show_corner.ensures.candidates

pub returns-clause-named : goal.returns-clause-named
returns-clause-named g c = subst (λ (v : CornerView). All (IsNamed v.problem) v.candidates) c.self.view_is c.show_corner.ensures.named
