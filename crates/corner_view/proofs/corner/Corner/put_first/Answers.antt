use Rattle.std.proofs.Common.{All, IfOk, subst, sym}
use Rattle.problem_core.specs.Layout.{HasStay}
use Rattle.problem_core.specs.Corners.{SameMarks}
use Rattle.corner_view.specs.Seen.{CornerView}
use Rattle.corner_view.proofs.corner.Corner.put_first.Goals as goal

pub put_first-requires-clause-held : goal.put_first-requires-clause-held
put_first-requires-clause-held g c = subst (λ (v : CornerView). All (HasStay v.problem.stays) c.args.attrs.now) (sym c.self.view_is) c.requires.held

pub returns-clause-marks : goal.returns-clause-marks
returns-clause-marks g c = subst (λ (v : CornerView). IfOk c.put_first.result (λ _. SameMarks (g.T.Tableau.seen c.put_first.new.self).marks v.marks)) c.self.view_is c.put_first.ensures.marks
