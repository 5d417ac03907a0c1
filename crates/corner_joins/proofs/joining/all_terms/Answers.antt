use Rattle.std.proofs.Common.{◌∙◌}
use Rattle.corner_table.specs.Tables.{lists_of}
use Rattle.corner_joins.proofs.Additions.RowTerms.{start_sum}
use Rattle.corner_joins.proofs.Additions.SumFits.{no_terms_fit, one_more_fits}
use Rattle.corner_joins.proofs.joining.all_terms.Goals as goal
use Rattle.corner_table.proofs.Corners.NewTables.{zero_is as is-zero}

pub loop-i-init : goal.loop-i-init
loop-i-init c = record {
  sum = start_sum (lists_of c.args.table.now) c.args.row.now c.in_ok-unit.field-0 c.zero.result c.from.result c.in_ok-unit.ensures (c.from.ensures ∙ c.len-at.ensures) (is-zero c.zero.result c.zero.ensures.num c.zero.ensures.den);
  fits = no_terms_fit (lists_of c.args.table.now) c.args.row.now;
}

pub loop-i-preserved : goal.loop-i-preserved
loop-i-preserved c = record {
  sum = c.in_ok-sum.ensures.sum;
  fits = one_more_fits (lists_of c.args.table.now) c.args.row.now c.loop-i.i c.loop-i.invariant.fits c.in_ok-sum.ensures.fits;
}
