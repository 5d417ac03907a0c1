use Rattle.claim_text.proofs.Claims.ClaimReadings.{fresh_level}
use Rattle.claim_text.proofs.claim.draft.best_of.Goals as goal

pub push-requires-clause-fresh : goal.push-requires-clause-fresh
push-requires-clause-fresh c =
    fresh_level c.args.levels.now c.loop-ended.best c.loop-ended.ended-index c.ended-item.result c.level.result c.requires c.loop-ended.invariant c.loop-ended-test.true c.ended-item.is c.level.ensures
