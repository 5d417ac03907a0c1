use Rattle.reply_texts.specs.Cores.{without_text}
use Rattle.reply_texts.proofs.Texts.{texts_next}
use Rattle.reply_texts.proofs.cores.push_withouts.Goals as goal

pub loop-part-preserved : goal.loop-part-preserved
loop-part-preserved c =
    texts_next without_text c.args.out.now.items c.loop-part.out.items c.push_without.new.out.items c.args.parts.now c.loop-part.part-index c.part-item.result c.loop-part-test.true c.part-item.is c.loop-part.invariant c.in_ok-push_without.ensures
