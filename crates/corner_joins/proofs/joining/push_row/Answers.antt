use Rattle.std.proofs.Common.{rules}
use Rattle.frac_core.specs.Fraction.{IsKept}
use Rattle.row_core.specs.Rows.{IsKeptRow}
use Rattle.corner_table.specs.Tables.{lists_of}
use Rattle.corner_joins.proofs.Additions.RowJoins.{row_joins, row_kept_part}
use Rattle.corner_joins.proofs.Additions.SlotsLeft.{row_left}
use Rattle.corner_joins.proofs.joining.push_row.Goals as goal

pub returns-clause-joined : goal.returns-clause-joined
returns-clause-joined c =
    let kept : IsKept c.in_ok-sum.sum.value = search rules in
    row_joins (lists_of c.args.table.now) (lists_of c.place_row.new.table) c.args.row.now c.in_ok-sum.sum c.requires.row.kept c.requires.row.whole c.in_ok-sum.ensures.sum kept c.in_ok-place_row.ensures.lists

pub returns-clause-kept : goal.returns-clause-kept
returns-clause-kept c =
    let kept : IsKept c.in_ok-sum.sum.value = search rules in
    let row : IsKeptRow c.in_ok-sum.sum.row = search rules in
    row_kept_part (lists_of c.args.table.now) (lists_of c.place_row.new.table) c.args.row.now c.in_ok-sum.sum c.requires.row.kept c.requires.row.whole c.in_ok-sum.ensures.sum row kept c.in_ok-place_row.ensures.lists

pub returns-clause-left : goal.returns-clause-left
returns-clause-left c = row_left (lists_of c.args.table.now) (lists_of c.place_row.new.table) c.args.row.now c.requires.row.left c.in_ok-place_row.ensures.lists.0
