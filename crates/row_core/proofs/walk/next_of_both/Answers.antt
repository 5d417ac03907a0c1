use Rattle.std.proofs.Common.{sym, subst, arith}
use Rattle.row_core.specs.declared.walk.RowsRead.{RowsRead}
use Rattle.row_core.specs.Walks.{IsSumRead}
use Rattle.row_core.proofs.Walks.{added_reads, waiting_reads, alone_read}
use Rattle.row_core.proofs.walk.next_of_both.Goals as goal

pub returns-then-at-clause-read : goal.returns-then-at-clause-read
returns-then-at-clause-read c =
    let rows = c.next_of_rows-rows.ensures in
    added_reads c.args.sum.now c.args.at c.next_of_rows-rows.result c.if-at.true rows.left rows.right rows.added rows.one

pub returns-in-None-clause-read : goal.returns-in-None-clause-read
returns-in-None-clause-read c =
    subst (λ (x : RowsRead). IsSumRead c.args.sum.now c.args.at x) (sym c.added_alone.ensures)
    (alone_read c.args.sum.now c.args.at c.requires.rising c.if-at.false
    (λ within. absurd (omega (arith, within, c.in-None.ensures.left_end))) (λ within. absurd (omega (arith, within, c.in-None.ensures.right_end))))

pub returns-then-read-sum-clause-read : goal.returns-then-read-sum-clause-read
returns-then-read-sum-clause-read c =
    let rows = c.in-Some.ensures in
    let made = c.with_added.ensures in
    waiting_reads c.args.sum.now c.args.at c.in-Some.read c.with_added.result c.if-at.false rows.left rows.right rows.one c.if-read-sum.true
    made.col made.left made.right made.next_left made.next_right made.added

pub returns-else-read-sum-clause-read : goal.returns-else-read-sum-clause-read
returns-else-read-sum-clause-read c =
    let rows = c.in-Some.ensures in
    subst (λ (x : RowsRead). IsSumRead c.args.sum.now c.args.at x) (sym c.added_alone-else-read-sum.ensures)
    (alone_read c.args.sum.now c.args.at c.requires.rising c.if-at.false
    (λ within. omega (arith, rows.left.first within, c.if-read-sum.false)) (λ within. omega (arith, rows.right.first within, c.if-read-sum.false)))
