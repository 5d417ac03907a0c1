use Rattle.std.proofs.Common.{◌≡◌, ◌+◌, ◌++◌, ◌≤◌, ◌^◌}
use Rattle.held_items.specs.Attributes.{attributes_from}
use Rattle.held_items.proofs.item.coming.attributes_from.Given as goal

abbrev pub invariant-loop-left : goal.invariant-loop-left
invariant-loop-left l = record {
  is : l.attrs.items ++ attributes_from l.next l.left ≡ attributes_from l.id l.count;
  small : l.next + l.left ≤ 2 ^ 29;
}

abbrev pub decreases-loop-left : goal.decreases-loop-left
decreases-loop-left l = l.left
