use Rattle.std.proofs.Common.{refl}
use Rattle.problem_core.specs.declared.parts.RowName.TheVariants.{Stay as StayOf}
use Rattle.corner_ends.proofs.FirstMarks.{lines_next, stay_named}
use Rattle.corner_ends.proofs.RequiredTimes.{same_item, same_within}
use Rattle.corner_ends.proofs.begins.push_stays.Goals as goal

pub push_line-requires : goal.push_line-requires
push_line-requires g c =
    stay_named c.args.c.now.problem c.loop-stay.stay-index c.stay-item.result (StayOf c.stay-item.result.attr)
    (same_within c.stays-stay-items.result.now c.args.c.now.problem.stays c.loop-stay.stay-index c.stays-stay-items.ensures c.loop-stay-test.true)
    (same_item c.stays-stay-items.result.now c.args.c.now.problem.stays c.loop-stay.stay-index c.stay-item.result c.stays-stay-items.ensures c.stay-item.is) refl

pub loop-stay-preserved : goal.loop-stay-preserved
loop-stay-preserved g c = λ first run.
    lines_next first c.args.out.now.items c.loop-stay.out.items c.push_line.new.out.items (λ s. StayOf s.attr) c.args.c.now.problem.stays c.loop-stay.stay-index c.stay-item.result (StayOf c.stay-item.result.attr)
    (same_within c.stays-stay-items.result.now c.args.c.now.problem.stays c.loop-stay.stay-index c.stays-stay-items.ensures c.loop-stay-test.true)
    (same_item c.stays-stay-items.result.now c.args.c.now.problem.stays c.loop-stay.stay-index c.stay-item.result c.stays-stay-items.ensures c.stay-item.is)
    refl (c.loop-stay.invariant first run) (c.in_ok-push_line.ensures first run)
