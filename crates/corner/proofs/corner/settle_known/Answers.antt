use Rattle.corner_table.specs.Tables.{lists_of}
use Rattle.corner_exchange.proofs.Pivots.PivotFacts.{enter_within}
use Rattle.corner.proofs.corner.settle_known.Goals as goal

pub list_exchanged-requires-clause-within : goal.list_exchanged-requires-clause-within
list_exchanged-requires-clause-within c = enter_within (lists_of c.args.table.now) c.args.pair c.requires.pair.swap c.requires.pair.kept.slots c.requires.pair.is

pub returns-in-Ok-clause-known : goal.returns-in-Ok-clause-known
returns-in-Ok-clause-known c = (
  c.clear_safe.ensures (lists_of c.exchange_settled.new.table),
  c.in-Ok.ensures.stays c.args.known.now.astray c.list_exchanged.new.astray c.list_exchanged.ensures c.requires.known.1,
)

pub returns-in-Err-clause-known : goal.returns-in-Err-clause-known
returns-in-Err-clause-known c = c.forget_known.ensures (lists_of c.exchange_settled.new.table)
