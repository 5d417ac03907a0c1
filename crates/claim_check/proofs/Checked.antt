-- What is answered to a claim is the answer to its lines, and to its input.
use Rattle.std.proofs.Common.{◌≡◌, ℕ, List, arith, length, inr}
use Rattle.problem_core.specs.Layout.{Problem}
use Rattle.problem_reading.specs.Problems as problem
use Rattle.claim_text.specs.Cut.{IsCut}
use Rattle.claim_check.specs.declared.checking.Answer.{Answer}
use Rattle.claim_check.specs.declared.checking.Answer.TheVariants.{Judged, Bad}
use Rattle.claim_writing.specs.declared.claim.Claim.{Claim}
use Rattle.claim_text.specs.Claims.ClaimTexts as claim
use Rattle.claim_check.specs.Checks.{IsAnswerTo, IsClaimAnswer, IsJudgedAs}

pub claim_answered : (all before after : List (List ℕ)) (p : Problem) (n : ℕ) (a : Answer) → IsCut all before after → problem.Reads before p → n ≡ length before → IsClaimAnswer p after n a → IsAnswerTo all a
claim_answered all before after p n (Judged v) cut says is (c, claims, verdict) = record {
  before = before;
  after = after;
  cut = cut;
  p = p;
  says = says;
  c = c;
  claims = claims;
  verdict = verdict;
}
claim_answered all before after p n (Bad line) cut says is (m, stop, number) = record {
  before = before;
  after = after;
  cut = cut;
  bad = inr (p, says, m, stop, omega (arith, number, is));
}

pub claim_judged : (all : List (List ℕ)) (p : Problem) (n : ℕ) (c : Claim) (a : Answer) → claim.Reads all c → IsJudgedAs p c a → IsClaimAnswer p all n a
claim_judged all p n c (Judged v) reads is = (c, reads, is)
claim_judged all p n c (Bad line) reads is = absurd is
