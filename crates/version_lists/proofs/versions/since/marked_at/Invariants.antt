use Rattle.std.proofs.Common.{◌≡◌, ◌∷◌, take, drop}
use Rattle.std.specs.Prelude.{slice_get}
use Rattle.version_lists.specs.Undo.{AreGone, items_at, reopen, undo}
use Rattle.version_lists.proofs.versions.since.marked_at.Given as goal

abbrev pub invariant-loop-gone : goal.invariant-loop-gone
invariant-loop-gone g l = record {
  reads : slice_get (items_at l.log l.list.items.items) l.i
      ≡ slice_get (reopen (λ r. r.value) (drop l.gone-index l.log.removed.items)
      (undo (λ r. r.value) l.log.replaced.items (take l.log.len l.list.items.items))) l.at;
  gone : AreGone l.log.len (drop l.gone-index l.log.removed.items);
}
