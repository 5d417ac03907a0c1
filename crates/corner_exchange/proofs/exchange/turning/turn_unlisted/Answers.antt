use Rattle.std.proofs.Common.{◌≡◌, Result, Ok, Err, OnOk, sym, subst}
use Rattle.problem_core.specs.Corners.{SameMarks}
use Rattle.corner_table.specs.Kept.{IsKept}
use Rattle.corner_exchange.specs.Swaps.Exchanges.{marks_after, turned_lists}
use Rattle.corner_exchange.specs.Swaps.NextLists.{AreMarksTurned}
use Rattle.corner_table.specs.Tables.{Lists, lists_of, marks_at}
use Rattle.corner_exchange.proofs.Swaps.TurnedFacts.{turn_slot, turned_after, turned_in, turned_kept}
use Rattle.corner_exchange.proofs.exchange.turning.turn_unlisted.Goals as goal

on-ok-with : {T E : Type 0} (r : Result T E) (P Q : Type 0) → (P → Q) → OnOk r P → OnOk r Q
on-ok-with (Ok x) P Q f p = f p
on-ok-with (Err e) P Q f p = tt

pub put_turned-requires-clause-within : goal.put_turned-requires-clause-within
put_turned-requires-clause-within c = (turn_slot (lists_of c.args.table.now) c.args.line c.args.side c.requires.turn.swap c.requires.turn.kept.slots c.requires.turn.is).1

pub put_turned-requires-clause-change : goal.put_turned-requires-clause-change
put_turned-requires-clause-change c = turned_in (lists_of c.args.table.now) c.args.line c.args.side c.requires.turn.swap c.args.change c.requires.turn.kept.slots c.requires.turn.is c.requires.change

pub returns-clause-kept : goal.returns-clause-kept
returns-clause-kept c =
    on-ok-with c.put_turned.result (lists_of c.put_turned.new.table ≡ turned_lists (lists_of c.args.table.now) c.args.line c.args.side c.args.change) (IsKept (lists_of c.put_turned.new.table))
    (λ same. subst IsKept (sym same) (turned_kept (lists_of c.args.table.now) c.args.line c.args.side c.requires.turn.swap c.args.change c.requires.turn.kept c.requires.turn.is c.requires.change))
    c.put_turned.ensures.ok

pub returns-clause-marks : goal.returns-clause-marks
returns-clause-marks c =
    on-ok-with c.put_turned.result (lists_of c.put_turned.new.table ≡ turned_lists (lists_of c.args.table.now) c.args.line c.args.side c.args.change) (AreMarksTurned (lists_of c.args.table.now) c.args.line c.args.side (lists_of c.put_turned.new.table))
    (λ same s is. subst (λ (t : Lists). SameMarks (marks_at t) (marks_after (lists_of c.args.table.now) s)) (sym same) (turned_after (lists_of c.args.table.now) c.args.line c.args.side s c.args.change c.requires.turn.kept is c.requires.change))
    c.put_turned.ensures.ok
