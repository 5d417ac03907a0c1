use Rattle.claim_text.proofs.Names.{no_level}
use Rattle.claim_text.proofs.claim.fields.level_name.Goals as goal

pub returns-in_err-attr-in-Some-clause-none : goal.returns-in_err-attr-in-Some-clause-none
returns-in_err-attr-in-Some-clause-none c = rw c.from_residual.ensures (no_level c.args.word.now c.in-Some.attr.now c.in-Some.ensures.some c.in_err-attr-in-Some.ensures.none)
