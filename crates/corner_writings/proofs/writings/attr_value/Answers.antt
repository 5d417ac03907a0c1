use Rattle.std.proofs.Common.{◌∙◌, ap, subst, sym}
use Rattle.problem_core.specs.Corners.{attr_column}
use Rattle.corner_table.specs.Tables.{lists_of, marks_at, problem_of, standing_at}
use Rattle.corner_view.specs.Seen.{HasValueAt}
use Rattle.corner_table.proofs.Readings.ReadFacts.{value_attr}
use Rattle.corner_writings.proofs.writings.attr_value.Goals as goal

pub returns : goal.returns
returns c =
    subst (λ f. HasValueAt (problem_of (lists_of c.args.table.now)) (marks_at (lists_of c.args.table.now)) (attr_column c.args.attr) f)
    (sym (c.value_at.ensures ∙ ap (λ w. (standing_at (lists_of c.args.table.now) w).value) c.attr_slot.ensures.value))
    (value_attr (lists_of c.args.table.now) c.args.attr c.requires.kept c.requires.attr)
