use Rattle.std.proofs.Common.{◌≡◌, filter, take}
use Rattle.conflict_core.specs.Cores.{is_tried}
use Rattle.conflict_core.proofs.listing.tried_rows.Given as goal

abbrev pub invariant-loop-row : goal.invariant-loop-row
invariant-loop-row l = l.out.items ≡ filter (is_tried l.ids) (take l.row-index l.p.rows)
