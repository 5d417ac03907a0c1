use Rattle.sweep_run.specs.Told.{stretch_of}
use Rattle.reply_texts.specs.Swept.{stretch_text}
use Rattle.reply_texts.proofs.Texts.{told_next}
use Rattle.reply_texts.proofs.swept.push_stretches.Goals as goal

pub loop-stretch-preserved : goal.loop-stretch-preserved
loop-stretch-preserved c =
    told_next stretch_of (stretch_text c.args.tree.now.views) c.args.out.now.items c.loop-stretch.out.items c.push_stretch.new.out.items c.args.stretches.now c.loop-stretch.stretch-index c.stretch-item.result c.loop-stretch-test.true c.stretch-item.is c.loop-stretch.invariant c.in_ok-push_stretch.ensures
