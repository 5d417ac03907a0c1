use Rattle.std.proofs.Common.{All, ap, subst, sym}
use Rattle.corner_exchange.specs.Swaps.Exchanges.{IsExchangeOf}
use Rattle.corner_table.specs.Invariants.{IsEarlier}
use Rattle.corner_table.specs.Tables.{lists_of}
use Rattle.corner_writings.specs.declared.levels.Pair.{Pair}
use Rattle.corner_shifts.proofs.ExchangedStays.{exchanged_stays}
use Rattle.corner.proofs.Swaps.NextConsistent.{exchanged_seen, marked_next}
use Rattle.corner.proofs.Swaps.SettledNext.{exchanged_settled}
use Rattle.corner.proofs.corner.exchange_settled.Goals as goal

pub rewound-requires-clause-marked : goal.rewound-requires-clause-marked
rewound-requires-clause-marked c = marked_next c.args.table.now c.put_unlisted.new.table c.requires.consistent.alike c.requires.marked c.in-Err-put_unlisted.ensures.before

pub returns-in-Ok-put_unlisted-clause-consistent : goal.returns-in-Ok-put_unlisted-clause-consistent
returns-in-Ok-put_unlisted-clause-consistent c =
    let (s, is, none) = c.requires.settled in
    let made : IsExchangeOf (lists_of c.args.table.now) c.in-Ok.made s = c.in-Ok.ensures.ok.1 s is in
    exchanged_settled c.args.table.now c.put_unlisted.new.table c.in-Ok.made s c.args.listed.now c.requires.consistent
    (c.in-Ok-put_unlisted.ensures.alike c.requires.consistent.alike) c.in-Ok-put_unlisted.ensures.before c.in-Ok-put_unlisted.ensures.lists c.in-Ok-put_unlisted.ensures.kept (c.in-Ok-put_unlisted.ensures.marks s made) none

pub returns-in-Ok-put_unlisted-clause-problem : goal.returns-in-Ok-put_unlisted-clause-problem
returns-in-Ok-put_unlisted-clause-problem c = (exchanged_seen (lists_of c.args.table.now) (lists_of c.put_unlisted.new.table) c.in-Ok.made c.in-Ok-put_unlisted.ensures.lists).problem

pub returns-in-Ok-put_unlisted-clause-marks : goal.returns-in-Ok-put_unlisted-clause-marks
returns-in-Ok-put_unlisted-clause-marks c = λ s are. c.in-Ok-put_unlisted.ensures.marks s (c.in-Ok.ensures.ok.1 s are)

pub put_unlisted-requires-clause-made : goal.put_unlisted-requires-clause-made
put_unlisted-requires-clause-made c = (c.requires.pair.swap, c.in-Ok.ensures.ok.1 c.requires.pair.swap c.requires.pair.is)

pub rewound-requires-clause-earlier : goal.rewound-requires-clause-earlier
rewound-requires-clause-earlier c = subst (All IsEarlier) (sym c.in-Err-put_unlisted.ensures.before) c.requires.consistent.before

pub returns-in-Ok-put_unlisted-clause-stays : goal.returns-in-Ok-put_unlisted-clause-stays
returns-in-Ok-put_unlisted-clause-stays c =
    exchanged_stays (lists_of c.args.table.now) (lists_of c.put_unlisted.new.table) c.in-Ok.made c.requires.pair.swap c.args.pair.enter c.requires.pair.kept
    (c.in-Ok.ensures.ok.1 c.requires.pair.swap c.requires.pair.is) (ap (λ (p : Pair). p.enter) c.in-Ok.ensures.ok.0) c.in-Ok-put_unlisted.ensures.lists
