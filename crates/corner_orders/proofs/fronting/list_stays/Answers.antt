use Rattle.std.proofs.Common.{arith, slice_index_or, subst}
use Rattle.corner_table.specs.Tables.{IsListedOf, lists_of, problem_of, row_at}
use Rattle.corner_table.proofs.Basics.OwnerFacts.{stay_named}
use Rattle.corner_orders.proofs.Orders.FrontedTables.{listed_all, listed_next}
use Rattle.corner_orders.proofs.fronting.list_stays.Goals as goal

pub line_slot-requires-clause-row : goal.line_slot-requires-clause-row
line_slot-requires-clause-row c =
    stay_named (problem_of (lists_of c.args.table.now)) (slice_index_or c.args.attrs.now c.loop-attr.attr-index 0) (c.requires.held c.loop-attr.attr-index 0 c.loop-attr-test.true)

pub list_row-requires-clause-within : goal.list_row-requires-clause-within
list_row-requires-clause-within c = let n = c.requires.slots.matrix in let w = c.line_slot.ensures.within in omega (arith, n, w)

pub loop-attr-preserved : goal.loop-attr-preserved
loop-attr-preserved c =
    listed_next (lists_of c.args.table.now) c.args.attrs.now c.loop-attr.attr-index 0 c.args.listed.now c.loop-attr.listed c.list_row.new.listed c.loop-attr-test.true c.loop-attr.invariant
    (subst (λ w. IsListedOf w (row_at (lists_of c.args.table.now) w) c.loop-attr.listed c.list_row.new.listed) c.line_slot.ensures.value c.in_ok-list_row.ensures)

pub returns : goal.returns
returns c = listed_all (lists_of c.args.table.now) c.args.attrs.now c.loop-attr.attr-index c.args.listed.now c.loop-attr.listed c.loop-attr-test.false c.loop-attr.invariant
