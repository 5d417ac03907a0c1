use Rattle.corner_ends.proofs.RequiredTimes.{same_item, same_past, same_within}
use Rattle.certificates.proofs.Numbers.{all_read, row_named, row_read, stay_is_named, stay_read}
use Rattle.certificates.proofs.times.times.Goals as goal

pub push_times-requires-clause-row : goal.push_times-requires-clause-row
push_times-requires-clause-row g c =
    row_named c.args.c.now.problem c.loop-row.row-index c.row-item.result c.id.result
    (same_within c.rows-row-items.result.now c.args.c.now.problem.rows c.loop-row.row-index c.rows-row-items.ensures c.loop-row-test.true)
    (same_item c.rows-row-items.result.now c.args.c.now.problem.rows c.loop-row.row-index c.row-item.result c.rows-row-items.ensures c.row-item.is)
    c.id.ensures

pub loop-row-preserved : goal.loop-row-preserved
loop-row-preserved g c =
    row_read c.args.c.now.problem c.args.c.now.marks c.args.level c.loop-row.row-index c.row-item.result c.id.result c.loop-row.out.items c.push_times.new.out.items
    (same_within c.rows-row-items.result.now c.args.c.now.problem.rows c.loop-row.row-index c.rows-row-items.ensures c.loop-row-test.true)
    (same_item c.rows-row-items.result.now c.args.c.now.problem.rows c.loop-row.row-index c.row-item.result c.rows-row-items.ensures c.row-item.is)
    c.id.ensures c.loop-row.invariant c.in_ok-push_times.ensures.pushed c.in_ok-push_times.ensures.fits

pub push_times-requires-in-loop-stay-clause-row : goal.push_times-requires-in-loop-stay-clause-row
push_times-requires-in-loop-stay-clause-row g c =
    stay_is_named c.args.c.now.problem c.loop-stay.stay-index c.stay-item.result
    (same_within c.stays-stay-items.result.now c.args.c.now.problem.stays c.loop-stay.stay-index c.stays-stay-items.ensures c.loop-stay-test.true)
    (same_item c.stays-stay-items.result.now c.args.c.now.problem.stays c.loop-stay.stay-index c.stay-item.result c.stays-stay-items.ensures c.stay-item.is)

pub loop-stay-preserved : goal.loop-stay-preserved
loop-stay-preserved g c =
    stay_read c.args.c.now.problem c.args.c.now.marks c.args.level c.loop-stay.stay-index c.stay-item.result c.loop-stay.out.items c.push_times-in-loop-stay.new.out.items
    (same_within c.stays-stay-items.result.now c.args.c.now.problem.stays c.loop-stay.stay-index c.stays-stay-items.ensures c.loop-stay-test.true)
    (same_item c.stays-stay-items.result.now c.args.c.now.problem.stays c.loop-stay.stay-index c.stay-item.result c.stays-stay-items.ensures c.stay-item.is)
    c.loop-stay.invariant c.in_ok-push_times-2.ensures.pushed c.in_ok-push_times-2.ensures.fits

pub returns-clause-value : goal.returns-clause-value
returns-clause-value g c =
    (all_read c.args.c.now.problem c.args.c.now.marks c.args.level c.loop-stay.stay-index c.loop-stay.out.items
    (same_past c.stays-stay-items.result.now c.args.c.now.problem.stays c.loop-stay.stay-index c.stays-stay-items.ensures c.loop-stay-test.false) c.loop-stay.invariant).value
