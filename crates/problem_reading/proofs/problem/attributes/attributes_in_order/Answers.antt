use Rattle.std.proofs.Common.{◌++◌, ◌∷◌, []}
use Rattle.problem_reading.proofs.LineLists.{line_more}
use Rattle.problem_reading.proofs.problem.attributes.attributes_in_order.Goals as goal

pub loop-line-preserved : goal.loop-line-preserved
loop-line-preserved c =
    let so_far = c.loop-line.invariant.2 in
    (tt, tt, (so_far.0 ++ c.in-Some.line.bytes.now ∷ [], line_more _ so_far.0 _ _ _ so_far.1 c.in-Some.ensures.steps.first, c.in_ok-add_attribute.ensures so_far.0 so_far.2))
