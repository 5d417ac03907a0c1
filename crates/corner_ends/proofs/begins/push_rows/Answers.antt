use Rattle.problem_core.specs.declared.parts.RowName.TheVariants.{Held}
use Rattle.std.proofs.Common.{ap, ℕ}
use Rattle.corner_ends.proofs.FirstMarks.{lines_next}
use Rattle.corner_ends.proofs.RequiredTimes.{row_among, row_named, same_item, same_within}
use Rattle.corner_ends.proofs.begins.push_rows.Goals as goal

pub push_line-requires : goal.push_line-requires
push_line-requires g c =
    row_named c.args.c.now.problem c.row-item.result.id c.id.result
    (row_among c.args.c.now.problem.rows c.loop-row.row-index c.row-item.result
    (same_within c.rows-row-items.result.now c.args.c.now.problem.rows c.loop-row.row-index c.rows-row-items.ensures c.loop-row-test.true)
    (same_item c.rows-row-items.result.now c.args.c.now.problem.rows c.loop-row.row-index c.row-item.result c.rows-row-items.ensures c.row-item.is))
    c.id.ensures

pub loop-row-preserved : goal.loop-row-preserved
loop-row-preserved g c = λ first run.
    lines_next first c.args.out.now.items c.loop-row.out.items c.push_line.new.out.items (λ r. Held r.id) c.args.c.now.problem.rows c.loop-row.row-index c.row-item.result (Held c.id.result)
    (same_within c.rows-row-items.result.now c.args.c.now.problem.rows c.loop-row.row-index c.rows-row-items.ensures c.loop-row-test.true)
    (same_item c.rows-row-items.result.now c.args.c.now.problem.rows c.loop-row.row-index c.row-item.result c.rows-row-items.ensures c.row-item.is)
    (ap (λ (n : ℕ). Held n) c.id.ensures) (c.loop-row.invariant first run) (c.in_ok-push_line.ensures first run)
