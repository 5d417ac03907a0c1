use Rattle.std.proofs.Common.{ap, sym, ◌∙◌}
use Rattle.claim_text.specs.Claims.ClaimTexts.{Draft}
use Rattle.claim_text.proofs.Claims.SeenStays.{bys_last}
use Rattle.claim_text.proofs.claim.draft.ClaimDraft.last_level.Goals as goal

pub returns-in-Bys-clause-some : goal.returns-in-Bys-clause-some
returns-in-Bys-clause-some c = bys_last c.args.self.now c.in-Bys.open c.level_of.result (sym (ap (λ (d : Draft). d.stage) c.self.view_is) ∙ c.in-Bys.is) c.level_of.ensures
