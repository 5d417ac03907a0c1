use Rattle.std.proofs.Common.{IfOk, subst}
use Rattle.problem_core.specs.Corners.{SameMarks, exchanged}
use Rattle.corner_view.specs.Seen.{CornerView}
use Rattle.corner_view.proofs.corner.Corner.swap.Goals as goal

pub returns-clause-marks : goal.returns-clause-marks
returns-clause-marks g c = subst (λ (v : CornerView). IfOk c.swap.result (λ _. SameMarks (g.T.Tableau.seen c.swap.new.self).marks (exchanged (record { enter = c.args.enter; leave = c.args.leave }) v.marks))) c.self.view_is c.swap.ensures.marks
