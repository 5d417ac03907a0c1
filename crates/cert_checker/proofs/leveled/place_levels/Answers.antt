use Rattle.cert_checker.specs.PlacedLevels.{IsPlaced}
use Rattle.cert_checker.proofs.Certificates.Levels.{zip-more}
use Rattle.cert_checker.proofs.leveled.place_levels.Goals as goal

pub loop-level-preserved : goal.loop-level-preserved
loop-level-preserved c =
    let is = rw c.levels-level-items.ensures.value at c.level-item.is in
    let below = rw c.levels-level-items.ensures.value at c.loop-level-test.true in
    let placed : IsPlaced c.args.p.now c.level-item.result c.in-Some.next = rw c.in-Some.is at c.in_ok-next.ensures.some in
    rw c.in_ok-push.ensures.items (zip-more (IsPlaced c.args.p.now) c.args.best.now c.loop-level.placed.items c.loop-level.level-index c.level-item.result c.in-Some.next below is c.loop-level.invariant placed)
