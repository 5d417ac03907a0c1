use Rattle.std.proofs.Common.{◌≡◌, take}
use Rattle.held_items.specs.Leaving.{numbers_of}
use Rattle.held_items.specs.Kept.{is_leaving, items_of}
use Rattle.held_items.proofs.item.leaving.leaving_numbers.Given as goal

abbrev pub invariant-loop-item : goal.invariant-loop-item
invariant-loop-item l = l.numbers.items ≡ numbers_of (is_leaving l.leaver) (items_of (take l.item-index l.items))
