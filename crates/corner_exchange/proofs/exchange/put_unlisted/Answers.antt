use Rattle.std.proofs.Common.{◌≡◌, Result, Ok, Err, OnOk, sym, subst}
use Rattle.problem_core.specs.Corners.{SameMarks}
use Rattle.corner_table.specs.Kept.{IsKept}
use Rattle.corner_exchange.specs.Swaps.Exchanges.{AreMarksAfter, exchanged_lists, marks_after}
use Rattle.corner_exchange.specs.Swaps.NextLists.{AreKeptChanges}
use Rattle.corner_table.specs.Tables.{Lists, lists_of, marks_at}
use Rattle.corner_exchange.proofs.Swaps.ExchangedKept.{exchanged_after, exchanged_kept}
use Rattle.corner_exchange.proofs.exchange.put_unlisted.Goals as goal

on-ok-with : {T E : Type 0} (r : Result T E) (P Q R : Type 0) → (P → Q → R) → OnOk r P → OnOk r Q → OnOk r R
on-ok-with (Ok x) P Q R f p q = f p q
on-ok-with (Err e) P Q R f p q = tt

pub returns-clause-kept : goal.returns-clause-kept
returns-clause-kept c =
    on-ok-with c.put_lists.result (AreKeptChanges c.args.made) (lists_of c.put_lists.new.table ≡ exchanged_lists (lists_of c.args.table.now) c.args.made) (IsKept (lists_of c.put_lists.new.table))
    (λ h is. subst IsKept (sym is) (exchanged_kept (lists_of c.args.table.now) c.args.made c.requires.made.0 c.requires.kept c.requires.made.1 h))
    c.put_lists.ensures.kept c.put_lists.ensures.ok

pub returns-clause-marks : goal.returns-clause-marks
returns-clause-marks c =
    on-ok-with c.put_lists.result (AreKeptChanges c.args.made) (lists_of c.put_lists.new.table ≡ exchanged_lists (lists_of c.args.table.now) c.args.made) (AreMarksAfter (lists_of c.args.table.now) c.args.made (lists_of c.put_lists.new.table))
    (λ h same s is. subst (λ (t : Lists). SameMarks (marks_at t) (marks_after (lists_of c.args.table.now) s)) (sym same) (exchanged_after (lists_of c.args.table.now) c.args.made s c.requires.kept is h))
    c.put_lists.ensures.kept c.put_lists.ensures.ok
