use Rattle.std.proofs.Common.{◌≡◌, ◌≤◌, ◌∷◌, length}
use Rattle.held_items.specs.Kept.{is_leaving}
use Rattle.held_items.proofs.Removals.LeavingItems.{left_at}
use Rattle.held_items.proofs.item.leaving.take_leaving_out.Given as goal

abbrev pub invariant-loop-place : goal.invariant-loop-place
invariant-loop-place l = record {
  within : l.place ≤ length l.fn.items.items;
  before : l.items.before ≡ l.fn.items.items ∷ l.fn.items.before;
  left : l.items.items ≡ left_at (is_leaving l.leaver) l.place l.fn.items.items;
}
