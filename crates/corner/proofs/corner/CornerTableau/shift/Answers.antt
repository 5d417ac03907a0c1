use Rattle.std.proofs.Common.{◌∙◌, All, ap, subst, sym}
use Rattle.corner_lines.specs.Shifts.{with_constant}
use Rattle.corner_view.specs.Stops.{IsUnfitStop}
use Rattle.corner_view.specs.Seen.{CornerView}
use Rattle.corner_table.specs.Tables.{lists_of}
use Rattle.corner_table.specs.Invariants.{IsEarlier}
use Rattle.corner_shifts.proofs.Shifts.ShiftTables.{shifted_consistent, shifted_marks, shifted_stop}
use Rattle.corner.proofs.corner.CornerTableau.shift.Goals as goal

pub invariant_of-self : goal.invariant_of-self
invariant_of-self c = (
  shifted_consistent c.self.inside.table c.shift_known.new.table c.args.id c.args.to c.self.inside.listed c.self.invariant.0 (c.shift_known.ensures.alike c.self.invariant.0.alike) c.shift_known.ensures.before c.shift_known.ensures.value c.in-Ok.ensures.ok,
  c.in-Ok.ensures.known,
)

pub take_back-requires-clause-alike : goal.take_back-requires-clause-alike
take_back-requires-clause-alike c = c.shift_known.ensures.alike c.self.invariant.0.alike

pub take_back-requires-clause-earlier : goal.take_back-requires-clause-earlier
take_back-requires-clause-earlier c = subst (All IsEarlier) (sym c.shift_known.ensures.before) c.self.invariant.0.before

pub returns-in-Ok-clause-marks : goal.returns-in-Ok-clause-marks
returns-in-Ok-clause-marks c =
    shifted_marks (lists_of c.self.inside.table) (lists_of c.shift_known.new.table) c.args.id c.args.to c.in-Ok.ensures.ok
    ∙ ap (λ (v : CornerView). v.marks) c.self.view_is

pub returns-in-Err-clause-stop : goal.returns-in-Err-clause-stop
returns-in-Err-clause-stop c =
    subst (λ (v : CornerView). IsUnfitStop (with_constant c.args.id c.args.to v.problem) v.marks c.in-Err.stop) c.self.view_is
    (shifted_stop (lists_of c.self.inside.table) c.args.id c.args.to c.in-Err.stop c.self.invariant.0.kept c.shift_known.ensures.value c.in-Err.ensures.stop)

pub invariant_of-self-in-Err : goal.invariant_of-self-in-Err
invariant_of-self-in-Err c = (c.take_back.ensures.consistent, c.forget_known.ensures (lists_of c.take_back.new.table))
