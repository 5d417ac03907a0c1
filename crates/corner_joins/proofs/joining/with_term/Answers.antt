use Rattle.std.proofs.Common.{◌+◌}
use Rattle.problem_core.specs.Unfit.{first_terms}
use Rattle.corner_table.specs.Tables.{lists_of}
use Rattle.corner_joins.proofs.Additions.RowTerms.{with_more}
use Rattle.corner_joins.proofs.Additions.SumFits.{sum_fits}
use Rattle.corner_joins.proofs.joining.with_term.Goals as goal

pub returns-clause-sum : goal.returns-clause-sum
returns-clause-sum c =
    with_more (lists_of c.args.table.now) c.args.row.now c.args.i c.args.sum.now c.in_ok-row.row c.in_ok-value.value c.args.at c.requires.row.kept c.requires.row.whole c.requires.sum.within c.requires.sum.is c.requires.at
    c.in_ok-row.ensures.value c.in_ok-value.ensures.value

pub returns-clause-fits : goal.returns-clause-fits
returns-clause-fits c =
    sum_fits (lists_of c.args.table.now) c.args.row.now (first_terms c.args.row.now (c.args.i + 1)) (record { row = c.in_ok-row.row; value = c.in_ok-value.value }) c.requires.row.whole
    (with_more (lists_of c.args.table.now) c.args.row.now c.args.i c.args.sum.now c.in_ok-row.row c.in_ok-value.value c.args.at c.requires.row.kept c.requires.row.whole c.requires.sum.within c.requires.sum.is c.requires.at
    c.in_ok-row.ensures.value c.in_ok-value.ensures.value)
    c.in_ok-row.ensures.value.0 c.in_ok-value.ensures.value.0
