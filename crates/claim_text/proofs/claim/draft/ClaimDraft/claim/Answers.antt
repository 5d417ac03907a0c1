use Rattle.claim_text.proofs.Claims.ClaimReadings.{bys_kept}
use Rattle.claim_text.proofs.claim.draft.ClaimDraft.claim.Goals as goal

pub conflict-requires : goal.conflict-requires
conflict-requires c = bys_kept c.args.self.now.bys c.requires.draft.bys
