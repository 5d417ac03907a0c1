use Rattle.std.proofs.Common.{None}
use Rattle.corner_table.specs.Tables.{lists_of}
use Rattle.corner_shifts.proofs.AstrayStays.{turned_stays}
use Rattle.corner.proofs.Safety.{turned_safe}
use Rattle.corner.proofs.Swaps.NextConsistent.{marked_next, turned_seen}
use Rattle.corner.proofs.Swaps.SettledNext.{turned_settled}
use Rattle.corner.proofs.corner.turn_stay.Goals as goal

pub rewound-requires-clause-marked : goal.rewound-requires-clause-marked
rewound-requires-clause-marked c = marked_next c.args.table.now c.turn_unlisted.new.table c.requires.consistent.alike c.requires.marked c.in-Err.ensures.before

pub returns-in-Ok-clause-consistent : goal.returns-in-Ok-clause-consistent
returns-in-Ok-clause-consistent c =
    let (s, is, none) = c.requires.settled in
    turned_settled c.args.table.now c.turn_unlisted.new.table c.args.line c.args.side None s c.args.listed.now c.requires.consistent
    (c.in-Ok.ensures.alike c.requires.consistent.alike) c.in-Ok.ensures.before c.in-Ok.ensures.lists c.in-Ok.ensures.kept (c.in-Ok.ensures.marks s is) none

pub returns-in-Ok-clause-problem : goal.returns-in-Ok-clause-problem
returns-in-Ok-clause-problem c = (turned_seen (lists_of c.args.table.now) (lists_of c.turn_unlisted.new.table) c.args.line c.args.side None c.in-Ok.ensures.lists).problem

pub returns-in-Ok-clause-known : goal.returns-in-Ok-clause-known
returns-in-Ok-clause-known c =
    let t = lists_of c.args.table.now in
    let u = lists_of c.turn_unlisted.new.table in (
      turned_safe t u c.args.line c.args.side c.requires.turn.swap c.args.known.now.safe c.requires.turn.kept c.requires.turn.is c.in-Ok.ensures.lists c.requires.known.0,
      λ known. turned_stays t u c.args.line c.args.side c.requires.turn.swap None c.requires.turn.kept.slots c.requires.turn.is c.requires.stay c.in-Ok.ensures.lists c.args.known.now.astray.lines (c.requires.known.1 known),
    )

pub returns-in-Err-clause-known : goal.returns-in-Err-clause-known
returns-in-Err-clause-known c = c.forget_known.ensures (lists_of c.rewound.new.table)
