use Rattle.std.proofs.Common.{◌≡◌, false, take}
use Rattle.std.specs.List.{list_any}
use Rattle.held_items.specs.Leaving.{is_in_group}
use Rattle.held_items.specs.Kept.{items_of}
use Rattle.held_items.proofs.item.leaving.has_group.Given as goal

abbrev pub invariant-loop-item : goal.invariant-loop-item
invariant-loop-item l = list_any (is_in_group l.name) (items_of (take l.item-index l.items)) ≡ false
