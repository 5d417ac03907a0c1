use Rattle.std.proofs.Common.{◌+◌, ◌<◌, List, length, sym, subst, Option, Some}
use Rattle.problem_core.specs.declared.parts.Side.{Side}
use Rattle.problem_core.specs.declared.parts.Side.TheVariants.{Over}
use Rattle.problem_core.specs.Layout.{Row}
use Rattle.path_claims.specs.Ways.{AreFirstSides}
use Rattle.path_claims.proofs.Walking.WayBegins.{any_row, held_over, one_side_more}
use Rattle.path_claims.proofs.way.held_sides.Goals as goal

pub loop-preserved : goal.loop-preserved
loop-preserved c =
    let within : c.loop.counter < length c.args.p.now.rows = subst (λ (rs : List Row). c.loop.counter < length rs) c.rows-end.ensures c.loop-test.true in
    subst (λ (zs : List (Option Side)). AreFirstSides c.args.p.now (c.loop.counter + 1) zs) (sym c.in_ok-push.ensures.items)
    (one_side_more c.args.p.now c.loop.counter c.loop.out.items (Some Over) c.loop.invariant (λ side. held_over c.args.p.now c.loop.counter any_row side within))
