use Rattle.std.proofs.Common.{◌∙◌, ap, subst, sym}
use Rattle.problem_core.specs.Corners.{place}
use Rattle.corner_table.specs.Tables.{lists_of, marks_at, problem_of, standing_at}
use Rattle.corner_view.specs.Seen.{HasValueAt}
use Rattle.corner_view.proofs.Facts.{mark_named}
use Rattle.corner_table.proofs.Readings.ReadFacts.{value_inside, value_outside, zero_value}
use Rattle.corner_writings.proofs.writings.mark_value.Goals as goal

pub stands_in-requires-clause-row : goal.stands_in-requires-clause-row
stands_in-requires-clause-row c = mark_named (problem_of (lists_of c.args.table.now)) c.args.mark c.requires.mark

pub line_slot-requires-clause-row : goal.line_slot-requires-clause-row
line_slot-requires-clause-row c = mark_named (problem_of (lists_of c.args.table.now)) c.args.mark c.requires.mark

pub returns-then-stands_in : goal.returns-then-stands_in
returns-then-stands_in c =
    subst (λ f. HasValueAt (problem_of (lists_of c.args.table.now)) (marks_at (lists_of c.args.table.now)) (place c.args.mark) f)
    (sym (c.value_at.ensures ∙ ap (λ w. (standing_at (lists_of c.args.table.now) w).value) c.line_slot.ensures.value))
    (value_inside (lists_of c.args.table.now) c.args.mark c.requires.kept c.requires.mark (sym c.stands_in.ensures ∙ c.if-stands_in.true))

pub returns-else-stands_in : goal.returns-else-stands_in
returns-else-stands_in c =
    zero_value (lists_of c.args.table.now) (place c.args.mark) c.zero.result c.zero.ensures.num c.zero.ensures.den
    (value_outside (lists_of c.args.table.now) c.args.mark c.requires.kept c.requires.mark (sym c.stands_in.ensures ∙ c.if-stands_in.false))
