use Rattle.claim_text.specs.Claims.ClaimTexts.{closed}
use Rattle.claim_text.proofs.Claims.SeenStays.{level_decided, levels_before}
use Rattle.claim_text.proofs.claim.draft.ClaimDraft.levels_are_before.Goals as goal

pub returns-in-Stay : goal.returns-in-Stay
returns-in-Stay c =
    level_decided (closed c.args.self.now.stage c.args.self.now.levels c.args.self.now.bys) c.args.keys.now c.args.level c.in-Stay.attr c.contains_key.result c.in-Stay.is c.requires.keys c.contains_key.ensures

pub returns-in-Some : goal.returns-in-Some
returns-in-Some c =
    levels_before (closed c.args.self.now.stage c.args.self.now.levels c.args.self.now.bys) c.in-Some.ensures.some.0 c.in-Some.last c.args.level c.in_default.field-0 c.in_default.is c.in-Some.ensures.some.1 c.requires.order c.is_level_before.result
    c.is_level_before.ensures
