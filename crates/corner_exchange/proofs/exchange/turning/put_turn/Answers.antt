use Rattle.corner_table.specs.Kept.{AreStored}
use Rattle.std.proofs.Common.{◌<◌, ◌∙◌, Result, Ok, Err, OnOk, length, sym, subst, List}
use Rattle.row_core.specs.Rows.{Term}
use Rattle.problem_core.specs.Corners.{SameMarks}
use Rattle.corner_table.specs.Kept.{AreSlots, IsKept}
use Rattle.corner_exchange.specs.Swaps.Exchanges.{marks_after}
use Rattle.corner_exchange.specs.Swaps.NextLists.{AreMarksTurned}
use Rattle.corner_table.specs.Tables.{IsListedOf, Lists, lists_of, marks_at, row_at}
use Rattle.corner_exchange.proofs.Swaps.TurnedFacts.{turn_slot, turned_after, turned_count, turned_in, turned_kept, turned_row}
use Rattle.corner_exchange.proofs.exchange.turning.put_turn.Goals as goal

on-ok : {T E : Type 0} (r : Result T E) (P : Type 0) → P → OnOk r P
on-ok (Ok x) P p = p
on-ok (Err e) P p = tt

on-ok-with : {T E : Type 0} (r : Result T E) (P Q : Type 0) → (P → Q) → OnOk r P → OnOk r Q
on-ok-with (Ok x) P Q f p = f p
on-ok-with (Err e) P Q f p = tt

pub put_turned-requires-clause-within : goal.put_turned-requires-clause-within
put_turned-requires-clause-within c = (turn_slot (lists_of c.args.table.now) c.args.line c.args.side c.requires.turn.swap c.requires.turn.kept.slots c.requires.turn.is).1

pub put_turned-requires-clause-change : goal.put_turned-requires-clause-change
put_turned-requires-clause-change c = turned_in (lists_of c.args.table.now) c.args.line c.args.side c.requires.turn.swap c.args.change c.requires.turn.kept.slots c.requires.turn.is c.requires.change

pub list_row-requires-clause-slots : goal.list_row-requires-clause-slots
list_row-requires-clause-slots c =
    subst AreSlots (sym c.in_ok-put_turned.ensures.ok) (turned_kept (lists_of c.args.table.now) c.args.line c.args.side c.requires.turn.swap c.args.change c.requires.turn.kept c.requires.turn.is c.requires.change).slots

pub list_row-requires-clause-within : goal.list_row-requires-clause-within
list_row-requires-clause-within c =
    let kept = turned_kept (lists_of c.args.table.now) c.args.line c.args.side c.requires.turn.swap c.args.change c.requires.turn.kept c.requires.turn.is c.requires.change in
    subst (λ (t : Lists). c.args.line < length t.matrix) (sym c.in_ok-put_turned.ensures.ok)
    (subst (λ n. c.args.line < n) (sym (kept.slots.matrix ∙ turned_count (lists_of c.args.table.now) c.args.line c.args.side c.args.change))
    (turn_slot (lists_of c.args.table.now) c.args.line c.args.side c.requires.turn.swap c.requires.turn.kept.slots c.requires.turn.is).1)

pub returns-clause-kept : goal.returns-clause-kept
returns-clause-kept c =
    on-ok c.list_row.result (IsKept (lists_of c.put_turned.new.table))
    (subst IsKept (sym c.in_ok-put_turned.ensures.ok) (turned_kept (lists_of c.args.table.now) c.args.line c.args.side c.requires.turn.swap c.args.change c.requires.turn.kept c.requires.turn.is c.requires.change))

pub returns-clause-marks : goal.returns-clause-marks
returns-clause-marks c =
    on-ok c.list_row.result (AreMarksTurned (lists_of c.args.table.now) c.args.line c.args.side (lists_of c.put_turned.new.table))
    (λ s is. subst (λ (t : Lists). SameMarks (marks_at t) (marks_after (lists_of c.args.table.now) s)) (sym c.in_ok-put_turned.ensures.ok) (turned_after (lists_of c.args.table.now) c.args.line c.args.side s c.args.change c.requires.turn.kept is c.requires.change))

pub returns-clause-listed : goal.returns-clause-listed
returns-clause-listed c =
    on-ok-with c.list_row.result (IsListedOf c.args.line (row_at (lists_of c.put_turned.new.table) c.args.line) c.args.listed.now c.list_row.new.listed) (IsListedOf c.args.line (row_at (lists_of c.args.table.now) c.args.line) c.args.listed.now c.list_row.new.listed)
    (λ all. subst (λ (r : List Term). IsListedOf c.args.line r c.args.listed.now c.list_row.new.listed) (turned_row (lists_of c.args.table.now) c.args.line c.args.side c.requires.turn.swap c.args.change c.requires.turn.kept.slots c.requires.turn.is c.requires.change)
    (subst (λ (t : Lists). IsListedOf c.args.line (row_at t c.args.line) c.args.listed.now c.list_row.new.listed) c.in_ok-put_turned.ensures.ok all))
    c.list_row.ensures

pub list_row-requires-clause-stored : goal.list_row-requires-clause-stored
list_row-requires-clause-stored c =
    subst AreStored (sym c.in_ok-put_turned.ensures.ok) (turned_kept (lists_of c.args.table.now) c.args.line c.args.side c.requires.turn.swap c.args.change c.requires.turn.kept c.requires.turn.is c.requires.change).stored
