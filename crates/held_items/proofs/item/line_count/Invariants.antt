use Rattle.std.proofs.Common.{◌≡◌, ◌≤◌, take}
use Rattle.held_items.specs.Items.{line_count}
use Rattle.held_items.specs.Kept.{items_of}
use Rattle.held_items.proofs.item.line_count.Given as goal

abbrev pub invariant-loop-item : goal.invariant-loop-item
invariant-loop-item l = record {
  count : l.count ≡ line_count (items_of (take l.item-index l.items));
  few : l.count ≤ l.item-index;
}
