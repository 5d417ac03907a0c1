use Rattle.claim_text.proofs.Claims.ClaimReadings.{levels_kept}
use Rattle.claim_text.proofs.claim.draft.ClaimDraft.best_claim.Goals as goal

pub best-requires : goal.best-requires
best-requires c = rw c.in_ok-close.ensures (levels_kept _ c.requires.draft.levels c.requires.draft.level_order)
