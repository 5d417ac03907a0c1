use Rattle.std.proofs.Common.{ap, subst}
use Rattle.corner_table.specs.Reads.Listing.{HasLeft}
use Rattle.corner_table.specs.Tables.{lists_of, problem_of}
use Rattle.corner_table.proofs.Basics.OwnerFacts.{stay_named}
use Rattle.corner_leaving.proofs.Attributes.DroppedAttrConsistent.{attr_drop_consistent, attr_dropped_marks, attr_left_listed}
use Rattle.corner_table.proofs.Basics.SmallFacts.{on_ok}
use Rattle.corner_leaving.proofs.dropping.take_attr.Goals as goal

pub attr_slot-requires-clause-attr : goal.attr_slot-requires-clause-attr
attr_slot-requires-clause-attr c = c.requires.free.held

pub line_slot-requires-clause-row : goal.line_slot-requires-clause-row
line_slot-requires-clause-row c = stay_named (problem_of (lists_of c.args.table.now)) c.args.attr c.requires.free.held

pub returns-clause-consistent : goal.returns-clause-consistent
returns-clause-consistent c =
    on_ok c.drop_stay.result _ _
    (λ now. attr_drop_consistent c.args.table.now c.drop_stay.new.table c.args.attr c.args.listed.now c.leave-2.new.self c.requires.consistent c.requires.free (c.drop_stay.ensures.alike c.requires.consistent.alike) c.drop_stay.ensures.before now
    (attr_left_listed (lists_of c.args.table.now) c.args.attr c.args.listed.now c.leave.new.self c.leave-2.new.self
    (subst (λ w. HasLeft w c.args.listed.now c.leave.new.self) c.attr_slot.ensures.value c.leave.ensures) (subst (λ w. HasLeft w c.leave.new.self c.leave-2.new.self) c.line_slot.ensures.value c.leave-2.ensures)))
    c.drop_stay.ensures.ok

pub returns-clause-problem : goal.returns-clause-problem
returns-clause-problem c = on_ok c.drop_stay.result _ _ (λ now. ap problem_of now) c.drop_stay.ensures.ok

pub returns-clause-marks : goal.returns-clause-marks
returns-clause-marks c =
    on_ok c.drop_stay.result _ _ (λ now. attr_dropped_marks (lists_of c.args.table.now) (lists_of c.drop_stay.new.table) c.args.attr c.requires.consistent.kept c.requires.free now) c.drop_stay.ensures.ok
