-- What the check answers, for those who don't know its answers by name.
use Rattle.std.proofs.Common.{◌≡◌, ◌⊎◌, ℕ, List, inl, inr, refl}
use Rattle.cert_checker.specs.declared.verdict.Verdict.{Verdict}
use Rattle.claim_check.specs.declared.checking.Answer.{Answer}
use Rattle.claim_check.specs.declared.checking.Answer.TheVariants.{Judged, Bad}
use Rattle.claim_check.specs.Checks.{IsAnswerTo, IsBad, IsJudged, answer_text, verdict_text}

-- a verdict, with its line, or a bad line
pub told : (all : List (List ℕ)) (answer : Answer) → IsAnswerTo all answer → ((v : Verdict) × IsJudged all v × (answer_text answer ≡ verdict_text v)) ⊎ ((n : ℕ) × IsBad all n)
told all (Judged v) is = inl (v, is, refl)
told all (Bad n) is = inr (n, is)
