use Rattle.std.proofs.Common.{◌≡◌, ◌+◌, length}
use Rattle.version_lists.specs.Undo.{AreGone, KeepsRoom, items_at, reopen, slots_at}
use Rattle.version_lists.proofs.versions.log.restore.Given as goal

abbrev pub invariant-loop-last : goal.invariant-loop-last
invariant-loop-last g l = record {
  items : reopen (λ r. r.value) l.removed.items l.list.items.items ≡ items_at l.fn.log l.fn.list.items.items;
  slots : reopen (λ r. r.slot) l.removed.items l.list.slots.items ≡ slots_at l.fn.log l.fn.list.slots.items;
  lengths : length l.list.slots.items ≡ length l.list.items.items;
  height : length l.list.items.items + length l.removed.items ≡ l.fn.log.len + length l.fn.log.removed.items;
  room : KeepsRoom l.fn.list l.list;
  gone : AreGone (length l.list.items.items) l.removed.items;
}

abbrev pub decreases-loop-last : goal.decreases-loop-last
decreases-loop-last g l = length l.removed.items
