use Rattle.version_lists.proofs.Indexing.{newest_indexed}
use Rattle.version_lists.proofs.rows.IndexedRows.push.Goals as goal

pub invariant_of-self : goal.invariant_of-self
invariant_of-self c = record {
  now =
      rw (c.rewind.ensures.items, c.rewind-then-is_err.ensures.items, c.append-done.ensures.rows_before, c.append-done.ensures.lists_before)
      (newest_indexed c.self.inside.rows.before c.self.inside.lists.before c.self.invariant.before);
  before =
      rw (c.rewind.ensures.before, c.rewind-then-is_err.ensures.before, c.append-done.ensures.rows_before, c.append-done.ensures.lists_before)
      c.self.invariant.before;
}
