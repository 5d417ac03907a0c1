-- Lines outside the forms of claims and of problems.
use Rattle.std.proofs.Common.{[], refl, arith, inr}
use Rattle.problem_reading.proofs.Problems.Outside.{no-problem, stray-outside}
use Rattle.claim_text.specs.Claims.ClaimTexts as claims
use Rattle.claim_text.specs.FormExamples.{SomeAreOutside}
use Rattle.claim_text.proofs.Claims.ClaimForms.{claims-are-the-form}

pub some-are-outside : SomeAreOutside
some-are-outside = record {
  early = claims-are-the-form.stop [] 1 (inr (record { number = refl; so_far = claims.nothing_read; reads = refl; waits = refl }));
  no_later = λ h. let e = claims-are-the-form.one [] 1 2 (claims-are-the-form.stop [] 1 (inr (record { number = refl; so_far = claims.nothing_read; reads = refl; waits = refl }))) h in absurd (omega (arith, e));
  empty = no-problem;
  stray = stray-outside;
}
