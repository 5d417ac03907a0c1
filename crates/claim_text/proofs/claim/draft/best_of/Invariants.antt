use Rattle.std.proofs.Common.{◌≡◌, take}
use Rattle.claim_text.proofs.claim.draft.best_of.Given as goal

abbrev pub invariant-loop-ended : goal.invariant-loop-ended
invariant-loop-ended l = l.best ≡ take l.ended-index l.levels
