use Rattle.reply_texts.specs.Found.{moving_line}
use Rattle.reply_texts.proofs.Texts.{texts_next}
use Rattle.reply_texts.proofs.found.push_movings.Goals as goal

pub loop-attr-preserved : goal.loop-attr-preserved
loop-attr-preserved c =
    texts_next (moving_line c.args.tree.now.views) c.args.out.now.items c.loop-attr.out.items c.push_moving.new.out.items c.args.moving.now c.loop-attr.attr-index c.attr-item.result c.loop-attr-test.true c.attr-item.is c.loop-attr.invariant c.in_ok-push_moving.ensures
