use Rattle.std.proofs.Common.{◌≡◌, ◌<◌, ◌*◌, ◌+◌}
use Rattle.std.specs.Ordering.{nat_cmp}
use Rattle.frac_core.proofs.order.cmp_sizes.Given as goal

abbrev pub invariant-loop-whole_left : goal.invariant-loop-whole_left
invariant-loop-whole_left l = record {
  left_den : 0 < l.b;
  right_den : 0 < l.d;
  same_order : nat_cmp (l.fn.a * l.fn.d) (l.fn.c * l.fn.b) ≡ nat_cmp (l.a * l.d) (l.c * l.b);
}

abbrev pub decreases-loop-whole_left : goal.decreases-loop-whole_left
decreases-loop-whole_left l = l.b + l.d
