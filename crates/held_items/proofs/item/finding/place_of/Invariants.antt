use Rattle.std.proofs.Common.{◌≡◌, false, take}
use Rattle.std.specs.List.{list_any}
use Rattle.held_items.specs.Kept.{is_lone, items_of}
use Rattle.held_items.proofs.item.finding.place_of.Given as goal

abbrev pub invariant-loop-place : goal.invariant-loop-place
invariant-loop-place l = list_any (is_lone l.which) (items_of (take l.place l.items)) ≡ false
