use Rattle.conflict_core.proofs.Naming.{next_read}
use Rattle.conflict_core.proofs.listing.named.Goals as goal

pub loop-by-preserved : goal.loop-by-preserved
loop-by-preserved c =
    next_read c.args.conflict.now c.by-by-items.result.now c.loop-by.by-index c.loop-by.out.items c.push_number.new.out.items
    c.by-by-items.ensures.value c.loop-by-test.true c.loop-by.invariant c.in_ok-push_number.ensures
