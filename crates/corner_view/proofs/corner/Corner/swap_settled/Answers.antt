use Rattle.std.proofs.Common.{[], IfOk, subst, sym}
use Rattle.problem_core.specs.Corners.{SameMarks, exchanged}
use Rattle.corner_view.specs.Seen.{AreCandidates, CornerView}
use Rattle.corner_view.proofs.corner.Corner.swap_settled.Goals as goal

pub swap_settled-requires-clause-settled : goal.swap_settled-requires-clause-settled
swap_settled-requires-clause-settled g c = subst (λ (v : CornerView). AreCandidates v.problem (exchanged (record { enter = c.args.enter; leave = c.args.leave }) v.marks) []) (sym c.self.view_is) c.requires.settled

pub returns-clause-marks : goal.returns-clause-marks
returns-clause-marks g c = subst (λ (v : CornerView). IfOk c.swap_settled.result (λ _. SameMarks (g.T.Tableau.seen c.swap_settled.new.self).marks (exchanged (record { enter = c.args.enter; leave = c.args.leave }) v.marks))) c.self.view_is c.swap_settled.ensures.marks
