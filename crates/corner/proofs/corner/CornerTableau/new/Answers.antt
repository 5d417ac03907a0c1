use Rattle.std.proofs.Common.{◌∙◌, ap, rules}
use Rattle.corner_table.specs.Invariants.{view_of, IsConsistent}
use Rattle.corner.proofs.Corners.NewCorners.{new_view}
use Rattle.corner_table.specs.Tables.{lists_of}
use Rattle.corner.proofs.corner.CornerTableau.new.Goals as goal

pub returns : goal.returns
returns c =
    ap (λ l. view_of c.in_ok-table.table l) c.new-listed.ensures
    ∙ new_view c.in_ok-table.table c.in_ok-table.ensures.past c.in_ok-table.ensures.rows c.in_ok-table.ensures.stays c.in_ok-table.ensures.slots

pub invariant_of-result : goal.invariant_of-result
invariant_of-result c =
    let first : IsConsistent c.in_ok-table.table c.new-listed.result = search rules in
    (first, c.nothing_known-known.ensures (lists_of c.in_ok-table.table) c.in_ok-table.ensures.stays)
