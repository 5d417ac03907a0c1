use Rattle.std.proofs.Common.{subst, sym}
use Rattle.problem_core.specs.Layout.{Problem}
use Rattle.problem_core.specs.Corners.{IsCorner, attr_column}
use Rattle.corner_view.specs.Seen.{HasValueAt}
use Rattle.sweep_laws.proofs.EachCorner.{corner_at_each}
use Rattle.sweep_run.proofs.EndFacts.{end_is_kept, there_is_here}
use Rattle.sweep_run.proofs.ValueBack.{value_there_is, value_unfit}
use Rattle.sweep_run.proofs.values.value_at.Goals as goal

pub returns-in-Ok-clause-value : goal.returns-in-Ok-clause-value
returns-in-Ok-clause-value g c =
    value_there_is c.args.c.now.problem c.args.c.now.marks c.args.way.now c.args.attr c.args.place.now c.rate_of-rate.result c.attr_value-value.result c.requires.place c.rate_of-rate.ensures c.num.ensures.kept.lowest.above
    (subst (λ (q : Problem). HasValueAt q c.args.c.now.marks (attr_column c.args.attr) c.attr_value-value.result) (sym (there_is_here c.args.way.now c.args.c.now c.requires.held)) c.attr_value-value.ensures) c.in-Ok.value c.in-Ok.ensures.value

pub returns-in-Err-clause-unfit : goal.returns-in-Err-clause-unfit
returns-in-Err-clause-unfit g c =
    value_unfit c.args.c.now.problem c.args.c.now.marks c.args.way.now c.args.attr c.args.place.now c.rate_of-rate.result c.attr_value-value.result c.requires.place c.rate_of-rate.ensures c.num.ensures.kept.lowest.above
    (subst (λ (q : Problem). HasValueAt q c.args.c.now.marks (attr_column c.args.attr) c.attr_value-value.result) (sym (there_is_here c.args.way.now c.args.c.now c.requires.held)) c.attr_value-value.ensures)
    (corner_at_each c.args.c.now.problem c.args.way.now.row c.args.c.now.marks c.args.way.now.end c.args.place.now.width c.requires.held.whole (end_is_kept c.args.way.now c.args.c.now c.requires.held).lowest.above c.requires.place.width.lowest.above
    (subst (λ (q : Problem). IsCorner q c.args.c.now.marks) (sym (there_is_here c.args.way.now c.args.c.now c.requires.held)) c.show_corner.ensures.kept.corner))
    c.requires.attr c.in-Err.ensures.unfit
