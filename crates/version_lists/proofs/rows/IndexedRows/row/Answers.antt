use Rattle.version_lists.proofs.Indexing.{row_got, row_below}
use Rattle.version_lists.proofs.rows.IndexedRows.row.Goals as goal

pub returns-clause-columns : goal.returns-clause-columns
returns-clause-columns c =
    rw (← c.self.view_is)
    (row_below c.self.inside.rows.items c.self.inside.lists.items c.args.w c.get-row.result.now c.self.invariant.now
    (row_got c.self.inside.rows.items c.args.w c.get-row.result.now c.get-row.ensures) c.entries-entries.ensures.kept)
