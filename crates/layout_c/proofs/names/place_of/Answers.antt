use Rattle.std.proofs.Common.{arith}
use Rattle.scenes.proofs.Views.Places.{view-at, view-further}
use Rattle.layout_c.proofs.names.place_of.Goals as goal

pub returns-then-is_at-clause-some : goal.returns-then-is_at-clause-some
returns-then-is_at-clause-some c =
    let at = c.is_at.ensures.yes c.if-is_at.true in
    (at.0, at.1, view-at c.args.tree.now.views c.loop-place.place c.args.id at.0 c.loop-place.invariant.before at.1 at.2)

pub loop-place-preserved : goal.loop-place-preserved
loop-place-preserved c = record {
  within = omega (arith, c.loop-place-test.true);
  is_end = c.loop-place.invariant.is_end;
  before = view-further c.args.tree.now.views c.loop-place.place c.args.id c.loop-place.invariant.before
      (omega (arith, c.loop-place-test.true, c.loop-place.invariant.is_end)) (c.is_at.ensures.no c.if-is_at.false);
}
