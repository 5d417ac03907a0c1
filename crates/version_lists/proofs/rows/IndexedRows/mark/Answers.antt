use Rattle.std.proofs.Common.{◌∷◌}
use Rattle.version_lists.proofs.Indexing.{take_indexed}
use Rattle.version_lists.proofs.rows.IndexedRows.mark.Goals as goal

pub invariant_of-self : goal.invariant_of-self
invariant_of-self c = record {
  now = rw (c.mark.ensures.items, c.mark-2.ensures.items) c.self.invariant.now;
  before =
      rw (c.mark.ensures.before, c.mark-2.ensures.before)
      (take_indexed 33 (c.self.inside.rows.items ∷ c.self.inside.rows.before) (c.self.inside.lists.items ∷ c.self.inside.lists.before)
      (c.self.invariant.now, c.self.invariant.before));
}
