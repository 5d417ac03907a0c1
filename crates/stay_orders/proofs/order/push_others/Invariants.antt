use Rattle.std.proofs.Common.{◌≡◌, ◌++◌, filter, not, take}
use Rattle.stay_orders.specs.Orders.{is_of}
use Rattle.stay_orders.proofs.order.push_others.Given as goal

abbrev pub invariant-loop-stay : goal.invariant-loop-stay
invariant-loop-stay l = l.out.items ≡ l.fn.out.items ++ filter (λ s. not (is_of l.fn.attr s)) (take l.stay-index l.fn.stays)
