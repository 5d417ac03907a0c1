use Rattle.claim_text.proofs.Claims.ClaimDrafts.{may_not}
use Rattle.claim_text.proofs.claim.draft.ClaimDraft.take_line.Goals as goal

pub returns-then-not-may_follow-clause-refused : goal.returns-then-not-may_follow-clause-refused
returns-then-not-may_follow-clause-refused c = λ _ new step.
    may_not c.args.self.now c.args.line.now c.in-Some.item c.may_follow.result c.in-Some.ensures.some c.may_follow.ensures c.if-not-may_follow.true new step

pub returns-clause-seen : goal.returns-clause-seen
returns-clause-seen c = λ _.
    rw c.in_ok-put.ensures (c.in_ok-note.ensures c.args.self.now (c.may_follow.ensures.0 c.if-not-may_follow.false) c.requires.seen)
