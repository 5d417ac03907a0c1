use Rattle.std.proofs.Common.{subst, All}
use Rattle.corner_view.specs.Seen.{AreCandidates, CornerView, IsKeptCorner, IsNamed, IsSettled}
use Rattle.corner_table.specs.Histories.{lists_before}
use Rattle.corner_table.specs.Tables.{lists_of}
use Rattle.corner_table.proofs.Readings.KeptFacts.{corner_kept, settled}
use Rattle.corner.proofs.corner.CornerTableau.show_corner.Goals as goal

pub returns-clause-kept : goal.returns-clause-kept
returns-clause-kept c = subst (λ (v : CornerView). IsKeptCorner v.problem v.marks) c.self.view_is (corner_kept (lists_of c.self.inside.table) c.self.invariant.0.kept)

pub returns-clause-candidates : goal.returns-clause-candidates
returns-clause-candidates c = subst (λ (v : CornerView). AreCandidates v.problem v.marks v.candidates) c.self.view_is c.self.invariant.0.candidates

pub returns-clause-named : goal.returns-clause-named
returns-clause-named c = subst (λ (v : CornerView). All (IsNamed v.problem) v.candidates) c.self.view_is c.self.invariant.0.named

pub returns-clause-before : goal.returns-clause-before
returns-clause-before c = subst (λ (v : CornerView). All IsSettled v.before) c.self.view_is (settled (lists_before c.self.inside.table) c.self.invariant.0.before)
