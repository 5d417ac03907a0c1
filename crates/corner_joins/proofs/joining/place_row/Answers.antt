use Rattle.std.proofs.Common.{rules}
use Rattle.row_core.specs.Rows.{IsKeptRow}
use Rattle.problem_core.specs.declared.parts.RowName.TheVariants.{Held}
use Rattle.corner_lines.specs.LineEquations.{deviation}
use Rattle.corner_table.specs.Tables.{lists_of}
use Rattle.corner_table.proofs.Basics.SmallFacts.{on_ok}
use Rattle.corner_joins.proofs.Additions.RowPlaced.{placed}
use Rattle.corner_joins.proofs.Additions.RowTerms.{sum_below}
use Rattle.corner_joins.proofs.Additions.SlotsLeft.{row_room}
use Rattle.corner_joins.proofs.joining.place_row.Goals as goal

pub push_slot-requires-clause-columns : goal.push_slot-requires-clause-columns
push_slot-requires-clause-columns c =
    let kept : IsKeptRow c.args.sum.row = search rules in
    sum_below (lists_of c.args.table.now) c.args.row.now (deviation (Held c.args.row.now.id)) c.args.sum c.requires.row.kept.slots c.requires.sum kept

pub returns-clause-lists : goal.returns-clause-lists
returns-clause-lists c =
    on_ok c.push.result _ _
    (λ more. placed c.args.row.now c.args.sum (lists_of c.args.table.now) (lists_of c.push_slot.new.table) c.slot_of.result c.standing_of-standing.result c.id.result c.next_slot-at.result c.in_ok-copy_of.field-0 c.put.new.self.items c.push.new.self.items
    (row_room (lists_of c.args.table.now) c.args.row.now c.requires.row) c.in_ok-push_slot.ensures.lists c.slot_of.ensures c.standing_of-standing.ensures c.in_ok-put.ensures.numbered c.id.ensures c.next_slot-at.ensures c.in_ok-copy_of.ensures more)
    c.push.ensures.ok
