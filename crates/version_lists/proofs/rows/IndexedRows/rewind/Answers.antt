use Rattle.version_lists.proofs.Indexing.{newest_indexed}
use Rattle.version_lists.proofs.rows.IndexedRows.rewind.Goals as goal

pub invariant_of-self : goal.invariant_of-self
invariant_of-self c = record {
  now =
      rw (c.rewind.ensures.items, c.rewind-2.ensures.items)
      (newest_indexed c.self.inside.rows.before c.self.inside.lists.before c.self.invariant.before);
  before = rw (c.rewind.ensures.before, c.rewind-2.ensures.before) c.self.invariant.before;
}
