use Rattle.std.proofs.Common.{subst, sym}
use Rattle.corner_exchange.specs.Swaps.TurnedLevels.{IsTurnStop}
use Rattle.corner_table.specs.Tables.{lists_of}
use Rattle.corner_shifts.proofs.AstrayStays.{turned_stays}
use Rattle.corner.proofs.Swaps.NextConsistent.{marked_next, turned_consistent, turned_seen}
use Rattle.corner.proofs.corner.turn_line.Goals as goal

pub rewound-requires-clause-marked : goal.rewound-requires-clause-marked
rewound-requires-clause-marked c = marked_next c.args.table.now c.put_turn.new.table c.requires.consistent.alike c.requires.marked c.in-Err-put_turn.ensures.before

pub returns-in-Ok-put_turn-clause-consistent : goal.returns-in-Ok-put_turn-clause-consistent
returns-in-Ok-put_turn-clause-consistent c =
    turned_consistent c.args.table.now c.put_turn.new.table c.args.line c.args.side c.requires.turn.swap c.in-Ok.change c.args.listed.now c.put_turn.new.listed c.requires.consistent c.requires.turn.is
    (c.in-Ok-put_turn.ensures.alike c.requires.consistent.alike) c.in-Ok-put_turn.ensures.before c.in-Ok-put_turn.ensures.lists c.in-Ok-put_turn.ensures.kept (c.in-Ok-put_turn.ensures.marks c.requires.turn.swap c.requires.turn.is) c.in-Ok-put_turn.ensures.listed

pub returns-in-Ok-put_turn-clause-problem : goal.returns-in-Ok-put_turn-clause-problem
returns-in-Ok-put_turn-clause-problem c = (turned_seen (lists_of c.args.table.now) (lists_of c.put_turn.new.table) c.args.line c.args.side c.in-Ok.change c.in-Ok-put_turn.ensures.lists).problem

pub returns-in-Err-clause-stop : goal.returns-in-Err-clause-stop
returns-in-Err-clause-stop c = subst (IsTurnStop (lists_of c.args.table.now) c.args.line c.args.side) (sym c.not_made.ensures.stop) c.in-Err.ensures.stop

pub returns-in-Ok-put_turn-clause-stays : goal.returns-in-Ok-put_turn-clause-stays
returns-in-Ok-put_turn-clause-stays c =
    turned_stays (lists_of c.args.table.now) (lists_of c.put_turn.new.table) c.args.line c.args.side c.requires.turn.swap c.in-Ok.change c.requires.turn.kept.slots c.requires.turn.is c.in-Ok.ensures.ok c.in-Ok-put_turn.ensures.lists
