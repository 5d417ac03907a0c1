use Rattle.corner_ends.proofs.RequiredTimes.{same_item, same_past, same_within}
use Rattle.diagnosis.proofs.UnmetRows.{row_there, unmet_all, unmet_more}
use Rattle.diagnosis.proofs.lacking.unmet.Goals as goal

pub push_unmet-requires : goal.push_unmet-requires
push_unmet-requires g c = record {
  held = row_there c.args.e.now.problem.rows c.loop-row.row-index c.row-item.result
      (same_within c.rows-row-items.result.now c.args.e.now.problem.rows c.loop-row.row-index c.rows-row-items.ensures c.loop-row-test.true)
      (same_item c.rows-row-items.result.now c.args.e.now.problem.rows c.loop-row.row-index c.row-item.result c.rows-row-items.ensures c.row-item.is);
}

pub loop-row-preserved : goal.loop-row-preserved
loop-row-preserved g c =
    unmet_more c.args.e.now.problem.rows c.args.e.now.values c.loop-row.out.items c.push_unmet.new.out.items c.loop-row.row-index c.row-item.result c.show_layout.ensures.whole.rising
    (same_within c.rows-row-items.result.now c.args.e.now.problem.rows c.loop-row.row-index c.rows-row-items.ensures c.loop-row-test.true)
    (same_item c.rows-row-items.result.now c.args.e.now.problem.rows c.loop-row.row-index c.row-item.result c.rows-row-items.ensures c.row-item.is)
    c.in_ok-push_unmet.ensures c.loop-row.invariant

pub returns : goal.returns
returns g c =
    unmet_all c.args.e.now.problem.rows c.args.e.now.values c.loop-row.out.items c.loop-row.row-index
    (same_past c.rows-row-items.result.now c.args.e.now.problem.rows c.loop-row.row-index c.rows-row-items.ensures c.loop-row-test.false) c.loop-row.invariant
