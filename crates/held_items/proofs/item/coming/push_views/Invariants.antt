use Rattle.std.proofs.Common.{◌≡◌, ◌+◌, ◌*◌, ◌++◌, ◌∷◌, ◌≤◌, ◌^◌}
use Rattle.held_items.specs.Items.{view_items}
use Rattle.held_items.specs.Kept.{items_of}
use Rattle.held_items.proofs.item.coming.push_views.Given as goal

abbrev pub invariant-loop-left : goal.invariant-loop-left
invariant-loop-left l = record {
  is : items_of l.items.items ++ view_items l.row l.next l.left ≡ items_of l.fn.items.items ++ view_items l.first_row l.id l.count;
  before : l.items.before ≡ l.fn.items.items ∷ l.fn.items.before;
  rows : l.row + 2 * l.left ≤ 2 ^ 31;
  ids : l.next + l.left ≤ 2 ^ 29;
}

abbrev pub decreases-loop-left : goal.decreases-loop-left
decreases-loop-left l = l.left
