use Rattle.problem_core.specs.Unfit.{first_terms}
use Rattle.corner_table.specs.Tables.{lists_of}
use Rattle.corner_joins.specs.Additions.RowSums.{IsSumRow}
use Rattle.corner_joins.specs.Additions.SumFits.{DoFirstTermsFit}
use Rattle.corner_joins.proofs.joining.all_terms.Given as goal

abbrev pub invariant-loop-i : goal.invariant-loop-i
invariant-loop-i l = record {
  sum : IsSumRow (lists_of l.table) l.row (first_terms l.row l.i) l.sum;
  fits : DoFirstTermsFit (lists_of l.table) l.row l.i;
}
