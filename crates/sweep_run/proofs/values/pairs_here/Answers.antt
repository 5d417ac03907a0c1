use Rattle.sweep_run.proofs.Numbers.{listed_more}
use Rattle.sweep_run.proofs.values.pairs_here.Goals as goal

pub loop-attr-preserved : goal.loop-attr-preserved
loop-attr-preserved g c =
    listed_more c.args.c.now.problem c.args.c.now.marks c.args.attrs.now c.loop-attr.out.items c.push.new.self.items c.loop-attr.attr-index c.attr_value-value.result c.loop-attr-test.true c.loop-attr.invariant c.num.ensures.kept
    c.attr_value-value.ensures c.in_ok-push.ensures.items
