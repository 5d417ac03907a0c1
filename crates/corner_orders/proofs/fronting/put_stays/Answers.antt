use Rattle.std.proofs.Common.{◌∙◌, List, ap, slice_set}
use Rattle.problem_core.specs.declared.parts.Stay.{Stay}
use Rattle.corner_table.specs.Tables.{lists_of}
use Rattle.corner_orders.specs.Fronted.{with_order}
use Rattle.corner_orders.proofs.Orders.FrontedTables.{order_next}
use Rattle.corner_orders.proofs.fronting.put_stays.Goals as goal

pub loop-i-preserved : goal.loop-i-preserved
loop-i-preserved c = record {
  past = record {
    rows = c.loop-i.invariant.past.rows;
    stays = c.put.ensures.before ∙ c.loop-i.invariant.past.stays;
    slots = c.loop-i.invariant.past.slots;
    standings = c.loop-i.invariant.past.standings;
    matrix = c.loop-i.invariant.past.matrix;
    attr_slots = c.loop-i.invariant.past.attr_slots;
    row_slots = c.loop-i.invariant.past.row_slots;
    priorities = c.loop-i.invariant.past.priorities;
  };
  lists = order_next c.args.order.now c.loop-i.i c.index-order-i.result (lists_of c.args.table.now) (lists_of c.loop-i.table) _ c.requires c.loop-i-test.true c.loop-i.invariant.lists
      (ap (λ (ss : List Stay). with_order ss (lists_of c.loop-i.table)) (c.in_ok-put.ensures.ok ∙ ap (λ (s : Stay). slice_set c.loop-i.table.stays.items c.loop-i.i s) c.index-order-i.is));
}
