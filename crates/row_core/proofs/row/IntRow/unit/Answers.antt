use Rattle.row_core.proofs.Lowest.{unit_kept}
use Rattle.row_core.proofs.row.IntRow.unit.Goals as goal

pub invariant_of-result : goal.invariant_of-result
invariant_of-result c = rw (c.in_ok-push.ensures.items, c.new-entries.ensures.items) (unit_kept c.args.col.0)
