use Rattle.std.proofs.Common.{ap}
use Rattle.corner_exchange.specs.Swaps.Exchanges.{IsExchangeOf}
use Rattle.corner_table.specs.Tables.{lists_of}
use Rattle.corner_writings.specs.declared.levels.Pair.{Pair}
use Rattle.corner_shifts.proofs.ExchangedStays.{exchanged_stays}
use Rattle.corner.proofs.Swaps.NextConsistent.{exchanged_consistent, exchanged_seen, marked_next}
use Rattle.corner.proofs.corner.exchange_lines.Goals as goal

pub rewound-requires-clause-marked : goal.rewound-requires-clause-marked
rewound-requires-clause-marked c = marked_next c.args.table.now c.put_exchange.new.table c.requires.consistent.alike c.requires.marked c.in-Err-put_exchange.ensures.before

pub returns-in-Ok-put_exchange-clause-consistent : goal.returns-in-Ok-put_exchange-clause-consistent
returns-in-Ok-put_exchange-clause-consistent c =
    let is : IsExchangeOf (lists_of c.args.table.now) c.in-Ok.made c.requires.pair.swap = c.in-Ok.ensures.ok.1 c.requires.pair.swap c.requires.pair.is in
    exchanged_consistent c.args.table.now c.put_exchange.new.table c.in-Ok.made c.requires.pair.swap c.args.listed.now c.put_exchange.new.listed c.requires.consistent is
    (c.in-Ok-put_exchange.ensures.alike c.requires.consistent.alike) c.in-Ok-put_exchange.ensures.before c.in-Ok-put_exchange.ensures.lists c.in-Ok-put_exchange.ensures.kept (c.in-Ok-put_exchange.ensures.marks c.requires.pair.swap is) c.in-Ok-put_exchange.ensures.listed

pub returns-in-Ok-put_exchange-clause-problem : goal.returns-in-Ok-put_exchange-clause-problem
returns-in-Ok-put_exchange-clause-problem c = (exchanged_seen (lists_of c.args.table.now) (lists_of c.put_exchange.new.table) c.in-Ok.made c.in-Ok-put_exchange.ensures.lists).problem

pub returns-in-Ok-put_exchange-clause-marks : goal.returns-in-Ok-put_exchange-clause-marks
returns-in-Ok-put_exchange-clause-marks c = λ s are. c.in-Ok-put_exchange.ensures.marks s (c.in-Ok.ensures.ok.1 s are)

pub returns-in-Ok-put_exchange-clause-stays : goal.returns-in-Ok-put_exchange-clause-stays
returns-in-Ok-put_exchange-clause-stays c =
    exchanged_stays (lists_of c.args.table.now) (lists_of c.put_exchange.new.table) c.in-Ok.made c.requires.pair.swap c.args.pair.enter c.requires.pair.kept
    (c.in-Ok.ensures.ok.1 c.requires.pair.swap c.requires.pair.is) (ap (λ (p : Pair). p.enter) c.in-Ok.ensures.ok.0) c.in-Ok-put_exchange.ensures.lists
