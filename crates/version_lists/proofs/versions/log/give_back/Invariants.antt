use Rattle.std.proofs.Common.{◌≡◌, ◌<◌, length}
use Rattle.std.specs.Prelude.{All}
use Rattle.version_lists.specs.Undo.{KeepsRoom, undo}
use Rattle.version_lists.proofs.versions.log.give_back.Given as goal

abbrev pub invariant-loop-last : goal.invariant-loop-last
invariant-loop-last g l = record {
  items : undo (λ r. r.value) l.replaced.items l.list.items.items ≡ undo (λ r. r.value) l.fn.replaced.items l.fn.list.items.items;
  slots : undo (λ r. r.slot) l.replaced.items l.list.slots.items ≡ undo (λ r. r.slot) l.fn.replaced.items l.fn.list.slots.items;
  items_len : length l.list.items.items ≡ length l.fn.list.items.items;
  slots_len : length l.list.slots.items ≡ length l.fn.list.items.items;
  room : KeepsRoom l.fn.list l.list;
  places : All (λ r. r.at < length l.fn.list.items.items) l.replaced.items;
}

abbrev pub decreases-loop-last : goal.decreases-loop-last
decreases-loop-last g l = length l.replaced.items
