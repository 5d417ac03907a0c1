use Rattle.std.proofs.Common.{subst, sym}
use Rattle.corner_exchange.specs.Swaps.TurnedLevels.{IsTurnStop}
use Rattle.corner_table.specs.Tables.{lists_of}
use Rattle.corner_shifts.proofs.AstrayStays.{turned_stays}
use Rattle.corner.proofs.Swaps.NextConsistent.{marked_next, turned_seen}
use Rattle.corner.proofs.Swaps.SettledNext.{turned_settled}
use Rattle.corner.proofs.corner.turn_settled.Goals as goal

pub rewound-requires-clause-marked : goal.rewound-requires-clause-marked
rewound-requires-clause-marked c = marked_next c.args.table.now c.turn_unlisted.new.table c.requires.consistent.alike c.requires.marked c.in-Err-turn_unlisted.ensures.before

pub returns-in-Ok-turn_unlisted-clause-consistent : goal.returns-in-Ok-turn_unlisted-clause-consistent
returns-in-Ok-turn_unlisted-clause-consistent c =
    let (s, is, none) = c.requires.settled in
    turned_settled c.args.table.now c.turn_unlisted.new.table c.args.line c.args.side c.in-Ok.change s c.args.listed.now c.requires.consistent
    (c.in-Ok-turn_unlisted.ensures.alike c.requires.consistent.alike) c.in-Ok-turn_unlisted.ensures.before c.in-Ok-turn_unlisted.ensures.lists c.in-Ok-turn_unlisted.ensures.kept (c.in-Ok-turn_unlisted.ensures.marks s is) none

pub returns-in-Ok-turn_unlisted-clause-problem : goal.returns-in-Ok-turn_unlisted-clause-problem
returns-in-Ok-turn_unlisted-clause-problem c = (turned_seen (lists_of c.args.table.now) (lists_of c.turn_unlisted.new.table) c.args.line c.args.side c.in-Ok.change c.in-Ok-turn_unlisted.ensures.lists).problem

pub returns-in-Err-clause-stop : goal.returns-in-Err-clause-stop
returns-in-Err-clause-stop c = subst (IsTurnStop (lists_of c.args.table.now) c.args.line c.args.side) (sym c.not_made.ensures.stop) c.in-Err.ensures.stop

pub returns-in-Ok-turn_unlisted-clause-stays : goal.returns-in-Ok-turn_unlisted-clause-stays
returns-in-Ok-turn_unlisted-clause-stays c =
    turned_stays (lists_of c.args.table.now) (lists_of c.turn_unlisted.new.table) c.args.line c.args.side c.requires.turn.swap c.in-Ok.change c.requires.turn.kept.slots c.requires.turn.is c.in-Ok.ensures.ok c.in-Ok-turn_unlisted.ensures.lists
