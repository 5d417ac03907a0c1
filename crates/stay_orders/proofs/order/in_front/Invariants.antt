use Rattle.std.proofs.Common.{◌≡◌, ◌≤◌, drop, length}
use Rattle.stay_orders.specs.Orders.{with_front}
use Rattle.stay_orders.proofs.order.in_front.Given as goal

abbrev pub invariant-loop-left : goal.invariant-loop-left
invariant-loop-left l = record {
  within : l.left ≤ length l.fn.attrs;
  done : l.order.items ≡ with_front (drop l.left l.fn.attrs) l.fn.stays;
}

abbrev pub decreases-loop-left : goal.decreases-loop-left
decreases-loop-left l = l.left
