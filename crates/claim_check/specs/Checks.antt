-- What the check of an input answers, and its text.
use Rattle.std.specs.Prelude.{◌≡◌, ◌⊎◌, ℕ, ◌+◌, Bool, true, false, List, [], ◌∷◌, ◌++◌, length, codes}
use Rattle.std.specs.Prelude.{decimal}
use Rattle.std.specs.Str.Lines.{lines}
use Rattle.span_text.specs.Bytes.{newline}
use Rattle.problem_core.specs.Layout.{Problem}
use Rattle.cert_checker.specs.declared.verdict.Verdict.{Verdict}
use Rattle.cert_checker.specs.declared.verdict.Verdict.TheVariants.{Yes, No, NoRoom}
use Rattle.cert_checker.specs.Certifying.{IsBestVerdict}
use Rattle.cert_checker.specs.Refuting.{IsConflictVerdict}
use Rattle.path_claims.specs.declared.verdict.PathVerdict.{PathVerdict}
use Rattle.path_claims.specs.declared.verdict.PathVerdict.TheVariants as on_path
use Rattle.path_claims.specs.PathClauses.{IsPathVerdict}
use Rattle.claim_writing.specs.declared.claim.Claim.{Claim}
use Rattle.claim_writing.specs.declared.claim.Claim.TheVariants.{IsBest, IsConflict, IsPath}
use Rattle.problem_reading.specs.Stops.{bad_line}
use Rattle.claim_text.specs.Cut.{IsCut}
use Rattle.problem_reading.specs.Problems as problem
use Rattle.claim_text.specs.Claims.ClaimTexts as claim
use Rattle.claim_check.specs.declared.checking.Answer.{Answer}
use Rattle.claim_check.specs.declared.checking.Answer.TheVariants.{Judged, Bad}

-- what is said of a path, as of other claims
abbrev pub verdict_of : PathVerdict → Verdict
verdict_of on_path.Yes = Yes
verdict_of (on_path.No clause) = No clause
verdict_of (on_path.NoRoom exchanges) = NoRoom exchanges

-- the verdict on a claim about the problem: on best values, on a conflict, or on a path
abbrev pub IsVerdictOn : Problem → Claim → Verdict → Type 0
IsVerdictOn p (IsBest values best) v = IsBestVerdict p values best v
IsVerdictOn p (IsConflict bys) v = IsConflictVerdict p bys v
IsVerdictOn p (IsPath path unfit) v = (w : PathVerdict) × IsPathVerdict p path unfit w × (v ≡ verdict_of w)

-- the lines are those of a problem and of a claim, and this is the verdict on them
pub record IsJudged (all : List (List ℕ)) (v : Verdict) : Type 0 where
  pub before : List (List ℕ)
  pub after : List (List ℕ)
  pub cut : IsCut all before after
  pub p : Problem
  pub says : problem.Reads before p
  pub c : Claim
  pub claims : claim.Reads after c
  pub verdict : IsVerdictOn p c v

-- the n-th line, counted from 1, is the first outside the form: one of the problem's, or one of the claim's
-- where the problem is in the form
pub record IsBad (all : List (List ℕ)) (n : ℕ) : Type 0 where
  pub before : List (List ℕ)
  pub after : List (List ℕ)
  pub cut : IsCut all before after
  pub bad : problem.IsProblemStop before (bad_line n) ⊎ ((p : Problem) × problem.Reads before p × (m : ℕ)
      × claim.IsClaimStop after (bad_line m) × (n ≡ length before + m))

-- a claim that is read is answered so: with the verdict on it
abbrev pub IsJudgedAs : Problem → Claim → Answer → Type 0
IsJudgedAs p claim (Judged v) = IsVerdictOn p claim v
IsJudgedAs p claim (Bad n) = ⊥

-- the lines of a claim on the problem are answered so, behind so many others: with the verdict on the claim,
-- or with the number of the first line outside the form
abbrev pub IsClaimAnswer : Problem → List (List ℕ) → ℕ → Answer → Type 0
IsClaimAnswer p all before (Judged v) = (c : Claim) × claim.Reads all c × IsVerdictOn p c v
IsClaimAnswer p all before (Bad n) = (m : ℕ) × claim.IsClaimStop all (bad_line m) × (n ≡ before + m)

-- the check of these lines answers so: with the verdict, or with the number of the first bad line
abbrev pub IsAnswerTo : List (List ℕ) → Answer → Type 0
IsAnswerTo all (Judged v) = IsJudged all v
IsAnswerTo all (Bad n) = IsBad all n

-- the line of a verdict: `yes`, `no N` or `no room N`
abbrev pub verdict_text : Verdict → List ℕ
verdict_text Yes = codes "yes" ++ newline ∷ []
verdict_text (No clause) = codes "no " ++ (decimal clause ++ newline ∷ [])
verdict_text (NoRoom place) = codes "no room " ++ (decimal place ++ newline ∷ [])

-- the line of the answer: that of its verdict, or `bad N`
abbrev pub answer_text : Answer → List ℕ
answer_text (Judged v) = verdict_text v
answer_text (Bad n) = codes "bad " ++ (decimal n ++ newline ∷ [])

-- whether the answer is `yes`
abbrev pub is_yes : Answer → Bool
is_yes (Judged Yes) = true
is_yes (Judged (No clause)) = false
is_yes (Judged (NoRoom place)) = false
is_yes (Bad n) = false

-- The text is the one line that the check of the input answers, which is `yes` or not.
abbrev pub IsCheckOf : List ℕ → List ℕ → Bool → Type 0
IsCheckOf input text good = (answer : Answer) × IsAnswerTo (lines input) answer × (text ≡ answer_text answer)
    × (good ≡ is_yes answer)
