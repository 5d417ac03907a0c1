use Rattle.corner_table.specs.Tables.{lists_of}
use Rattle.corner_exchange.proofs.Pivots.TouchedFacts.{all_gone, one_gone}
use Rattle.corner_exchange.proofs.exchange.changes.Goals as goal

pub loop-w-preserved : goal.loop-w-preserved
loop-w-preserved c =
    one_gone (lists_of c.args.table.now) c.args.pivot.now c.column-column.result.now c.loop-w.w-index c.loop-w.out.items c.push_change.new.out.items c.loop-w.invariant
    c.in_ok-push_change.ensures.changes c.in_ok-push_change.ensures.keeps c.in_ok-push_change.ensures.put

pub push_touched-requires-clause-stands : goal.push_touched-requires-clause-stands
push_touched-requires-clause-stands c =
    all_gone (lists_of c.args.table.now) c.args.pivot.now c.column-column.result.now c.loop-w.w-index c.loop-w.out.items c.loop-w.invariant c.loop-w-test.false
    (λ w some. (c.column-column.ensures.value.exact w).1 some)
