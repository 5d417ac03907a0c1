use Rattle.corner_table.specs.Kept.{AreStored}
use Rattle.std.proofs.Common.{◌<◌, Result, Ok, Err, OnOk, length, sym, subst}
use Rattle.problem_core.specs.Corners.{SameMarks}
use Rattle.corner_table.specs.Kept.{AreSlots, IsKept}
use Rattle.corner_exchange.specs.Swaps.Exchanges.{AreListedAfter, AreMarksAfter, marks_after}
use Rattle.corner_exchange.specs.Swaps.NextLists.{AreKeptChanges}
use Rattle.corner_table.specs.Tables.{IsListedOf, Lists, lists_of, marks_at, row_at}
use Rattle.corner_exchange.proofs.Pivots.PivotFacts.{enter_within}
use Rattle.corner_exchange.proofs.Swaps.ExchangedKept.{exchanged_after, exchanged_kept, slots_same}
use Rattle.corner_exchange.proofs.Swaps.ListedFacts.{listed_after}
use Rattle.corner_exchange.proofs.exchange.put_exchange.Goals as goal

on-ok : {T E : Type 0} (r : Result T E) (P : Type 0) → P → OnOk r P
on-ok (Ok x) P p = p
on-ok (Err e) P p = tt

on-ok-with : {T E : Type 0} (r : Result T E) (P Q : Type 0) → (P → Q) → OnOk r P → OnOk r Q
on-ok-with (Ok x) P Q f p = f p
on-ok-with (Err e) P Q f p = tt

pub list_row-requires-clause-slots : goal.list_row-requires-clause-slots
list_row-requires-clause-slots c =
    let h : AreKeptChanges c.args.made = c.in_ok-put_lists.ensures.kept in
    subst AreSlots (sym c.in_ok-put_lists.ensures.ok) (exchanged_kept (lists_of c.args.table.now) c.args.made c.requires.made.0 c.requires.kept c.requires.made.1 h).slots

pub list_row-requires-clause-within : goal.list_row-requires-clause-within
list_row-requires-clause-within c =
    let h : AreKeptChanges c.args.made = c.in_ok-put_lists.ensures.kept in
    subst (λ (t : Lists). c.args.made.pair.enter < length t.matrix) (sym c.in_ok-put_lists.ensures.ok)
    (subst (λ n. c.args.made.pair.enter < n) (sym (exchanged_kept (lists_of c.args.table.now) c.args.made c.requires.made.0 c.requires.kept c.requires.made.1 h).slots.matrix)
    (subst (λ n. c.args.made.pair.enter < n) (sym (slots_same (lists_of c.args.table.now) c.args.made)) (enter_within (lists_of c.args.table.now) c.args.made.pair c.requires.made.0 c.requires.kept.slots c.requires.made.1.pair)))

pub returns-clause-kept : goal.returns-clause-kept
returns-clause-kept c =
    let h : AreKeptChanges c.args.made = c.in_ok-put_lists.ensures.kept in
    on-ok c.list_row.result (IsKept (lists_of c.put_lists.new.table))
    (subst IsKept (sym c.in_ok-put_lists.ensures.ok) (exchanged_kept (lists_of c.args.table.now) c.args.made c.requires.made.0 c.requires.kept c.requires.made.1 h))

pub returns-clause-marks : goal.returns-clause-marks
returns-clause-marks c =
    let h : AreKeptChanges c.args.made = c.in_ok-put_lists.ensures.kept in
    on-ok c.list_row.result (AreMarksAfter (lists_of c.args.table.now) c.args.made (lists_of c.put_lists.new.table))
    (λ s is. subst (λ (t : Lists). SameMarks (marks_at t) (marks_after (lists_of c.args.table.now) s)) (sym c.in_ok-put_lists.ensures.ok) (exchanged_after (lists_of c.args.table.now) c.args.made s c.requires.kept is h))

pub returns-clause-listed : goal.returns-clause-listed
returns-clause-listed c =
    let h : AreKeptChanges c.args.made = c.in_ok-put_lists.ensures.kept in
    on-ok-with c.list_row.result (IsListedOf c.args.made.pair.enter (row_at (lists_of c.put_lists.new.table) c.args.made.pair.enter) c.push.new.self c.list_row.new.listed) (AreListedAfter (lists_of c.args.table.now) c.args.made c.args.listed.now c.list_row.new.listed)
    (λ all. listed_after (lists_of c.args.table.now) c.args.made c.requires.made.0 c.args.listed.now c.push.new.self c.list_row.new.listed c.requires.kept c.requires.made.1 h c.in_ok-push.ensures
    (subst (λ (t : Lists). IsListedOf c.args.made.pair.enter (row_at t c.args.made.pair.enter) c.push.new.self c.list_row.new.listed) c.in_ok-put_lists.ensures.ok all))
    c.list_row.ensures

pub list_row-requires-clause-stored : goal.list_row-requires-clause-stored
list_row-requires-clause-stored c =
    let h : AreKeptChanges c.args.made = c.in_ok-put_lists.ensures.kept in
    subst AreStored (sym c.in_ok-put_lists.ensures.ok) (exchanged_kept (lists_of c.args.table.now) c.args.made c.requires.made.0 c.requires.kept c.requires.made.1 h).stored
