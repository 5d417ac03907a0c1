use Rattle.std.proofs.Common.{◌≡◌, false, rules}
use Rattle.corner_table.specs.Tables.{lists_of}
use Rattle.corner_leaving.proofs.Removals.DroppedTables.{listed_free, listed_row}
use Rattle.corner_table.proofs.Basics.SmallFacts.{on_ok}
use Rattle.corner_leaving.proofs.dropping.list_left.Goals as goal

pub returns-then-not-costs_at : goal.returns-then-not-costs_at
returns-then-not-costs_at c =
    let free : c.costs_at.result ≡ false = search rules in
    listed_free (lists_of c.args.table.now) c.args.line c.args.listed.now c.leave.new.self c.leave.ensures (c.costs_at.ensures free)

pub returns : goal.returns
returns c =
    on_ok c.list_row.result _ _ (λ row. listed_row (lists_of c.args.table.now) c.args.line c.args.listed.now c.leave.new.self c.list_row.new.listed c.leave.ensures row) c.list_row.ensures
