use Rattle.std.proofs.Common.{◌≡◌, ◌≤◌, ◌∷◌, false, take, length}
use Rattle.std.specs.List.{list_any}
use Rattle.held_items.specs.Kept.{is_renewed, items_of}
use Rattle.held_items.proofs.item.renewing.renew.Given as goal

abbrev pub invariant-loop-place : goal.invariant-loop-place
invariant-loop-place l = record {
  within : l.place ≤ l.place-end;
  is_end : l.place-end ≡ length l.items.items;
  same : l.items.items ≡ l.fn.items.items;
  before : l.items.before ≡ l.fn.items.items ∷ l.fn.items.before;
  none : list_any (is_renewed l.to) (items_of (take l.place l.items.items)) ≡ false;
}
