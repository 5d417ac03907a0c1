use Rattle.reply_texts.specs.Found.{error_line}
use Rattle.reply_texts.proofs.Texts.{texts_next}
use Rattle.reply_texts.proofs.found.push_errors.Goals as goal

pub loop-error-preserved : goal.loop-error-preserved
loop-error-preserved c =
    texts_next error_line c.args.out.now.items c.loop-error.out.items c.push_error.new.out.items c.args.errors.now c.loop-error.error-index c.error-item.result c.loop-error-test.true c.error-item.is c.loop-error.invariant c.in_ok-push_error.ensures
