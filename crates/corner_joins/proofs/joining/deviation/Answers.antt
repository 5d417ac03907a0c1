use Rattle.std.proofs.Common.{rules}
use Rattle.row_core.specs.Rows.{IsKeptRow}
use Rattle.corner_table.specs.Tables.{lists_of}
use Rattle.corner_joins.proofs.Additions.SumFits.{all_terms_fit}
use Rattle.corner_joins.proofs.joining.deviation.Goals as goal

pub returns-clause-fits : goal.returns-clause-fits
returns-clause-fits c =
    let row : IsKeptRow c.in_ok-sum.sum.row = search rules in
    all_terms_fit (lists_of c.args.table.now) c.args.row.now (record { row = c.in_ok-sum.sum.row; value = c.in_ok-value.value }) c.requires.row.kept c.requires.row.whole c.in_ok-sum.ensures.fits c.in_ok-value.ensures.value row c.in_ok-value.ensures.kept
