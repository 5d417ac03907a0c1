use Rattle.reply_texts.specs.Found.{unmet_line}
use Rattle.reply_texts.proofs.Texts.{texts_next}
use Rattle.reply_texts.proofs.found.push_unmets.Goals as goal

pub loop-row-preserved : goal.loop-row-preserved
loop-row-preserved c =
    texts_next unmet_line c.args.out.now.items c.loop-row.out.items c.push_unmet.new.out.items c.args.unmet.now c.loop-row.row-index c.row-item.result c.loop-row-test.true c.row-item.is c.loop-row.invariant c.in_ok-push_unmet.ensures
