use Rattle.corner_lines.specs.Shifts.{with_constant}
use Rattle.sweep_run.proofs.Numbers.{listed_more}
use Rattle.sweep_run.proofs.values.pairs_at.Goals as goal

pub loop-attr-preserved : goal.loop-attr-preserved
loop-attr-preserved g c =
    listed_more (with_constant c.args.way.now.row c.args.place.now.width c.args.c.now.problem) c.args.c.now.marks c.args.attrs.now c.loop-attr.out.items c.push.new.self.items c.loop-attr.attr-index c.in_ok-value_at.field-0 c.loop-attr-test.true
    c.loop-attr.invariant c.in_ok-value_at.ensures.kept c.in_ok-value_at.ensures.value c.in_ok-push.ensures.items
