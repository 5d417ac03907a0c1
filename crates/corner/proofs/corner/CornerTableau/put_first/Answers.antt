use Rattle.std.proofs.Common.{subst, sym, All}
use Rattle.problem_core.specs.Layout.{HasStay}
use Rattle.problem_core.specs.Corners.{SameMarks}
use Rattle.corner_table.specs.Tables.{lists_of, marks_at}
use Rattle.corner_view.specs.Seen.{CornerView}
use Rattle.corner.proofs.corner.CornerTableau.put_first.Goals as goal

pub put_front-requires-clause-held : goal.put_front-requires-clause-held
put_front-requires-clause-held c = subst (λ (v : CornerView). All (HasStay v.problem.stays) c.args.attrs.now) (sym c.self.view_is) c.requires.held

pub returns-in-Ok-clause-marks : goal.returns-in-Ok-clause-marks
returns-in-Ok-clause-marks c = subst (λ (v : CornerView). SameMarks (marks_at (lists_of c.put_front.new.table)) v.marks) c.self.view_is c.in-Ok.ensures.marks

pub invariant_of-self : goal.invariant_of-self
invariant_of-self c = (c.in-Ok.ensures.consistent, c.forget_known.ensures (lists_of c.put_front.new.table))

pub invariant_of-self-in-Err : goal.invariant_of-self-in-Err
invariant_of-self-in-Err c = (c.take_back.ensures.consistent, c.forget_known.ensures (lists_of c.take_back.new.table))
