use Rattle.claim_text.proofs.Claims.ClaimForms.{claims-are-the-form}
use Rattle.claim_text.proofs.form_laws.claims_are_the_form.Goals as goal

pub returns : goal.returns
returns c = claims-are-the-form
