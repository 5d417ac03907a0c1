-- What a run shows of a problem, and what the check of it answers.
use Rattle.std.specs.Prelude.{◌≡◌, ◌⊎◌, ℕ, ◌<◌, Bool, true, false, List, [], ◌∷◌, ◌++◌, Some, None, All}
use Rattle.std.specs.Prelude.{codes, decimal}
use Rattle.span_text.specs.Bytes.{hash, newline, space}
use Rattle.frac_core.specs.Fraction.{Fraction}
use Rattle.problem_core.specs.declared.parts.Mark.{Mark}
use Rattle.problem_core.specs.declared.stops.Quantity.{Quantity}
use Rattle.problem_core.specs.declared.stops.Quantity.TheVariants.{Plain, Terms, Rows, Shifts}
use Rattle.problem_core.specs.Layout.{Problem, Row}
use Rattle.problem_core.specs.Kept.{AreRising, IsRow, IsWhole}
use Rattle.problem_core.specs.Unfit.{with_first_shifts}
use Rattle.cert_core.specs.declared.by.By.{By}
use Rattle.cert_core.specs.declared.stops.RunStop.TheVariants.{Spent, Unfit}
use Rattle.cert_core.specs.declared.stops.UnfitPath.{UnfitPath}
use Rattle.cert_core.specs.Claims.{AreBys, AreLevels, BestLevel}
use Rattle.cert_core.specs.Paths.{Path}
use Rattle.cert_core.specs.Stops.{IsShownConflict, IsStopOf}
use Rattle.corner_laws.specs.Laws.{Anywhere}
use Rattle.corner_view.specs.Seen.{in_order}
use Rattle.certificates.specs.Accepted.{IsCertified}
use Rattle.certificates.specs.OwnLevels.{IsOwnBest}
use Rattle.cert_checker.specs.declared.verdict.Verdict.{Verdict}
use Rattle.cert_checker.specs.declared.verdict.Verdict.TheVariants.{NoRoom}
use Rattle.claim_writing.specs.declared.claim.Claim.{Claim}
use Rattle.claim_writing.specs.declared.claim.Claim.TheVariants.{IsBest, IsConflict, IsPath}
use Rattle.claim_writing.specs.Lines.{problem_text, text_of_lines}
use Rattle.claim_writing.specs.ClaimLines.{IsValue, claim_text}
use Rattle.problem_reading.specs.ProblemForms.{IsSmall}
use Rattle.claim_text.specs.Claims.ClaimTexts.{IsWritten}
use Rattle.claim_text.specs.Cut.{ok_line}
use Rattle.claim_check.specs.Checks.{IsCheckOf, IsVerdictOn, verdict_text}

-- a line of comment, as those that name a view's attributes
pub record IsComment (line : List ℕ) : Type 0 where
  pub more : List ℕ
  pub begins : line ≡ hash ∷ space ∷ more
  pub bytes : All (λ b. 31 < b) line

-- the line `ok`, or none
abbrev pub ok_lines : Bool → List (List ℕ)
ok_lines true = ok_line ∷ []
ok_lines false = []

-- the text of a problem and of a claim on it, behind some lines, and with `ok` at its end or without
abbrev pub shown_text : List (List ℕ) → Problem → Claim → Bool → List ℕ
shown_text comments p c ended =
    text_of_lines comments ++ (problem_text p ++ (claim_text c ++ text_of_lines (ok_lines ended)))

-- the problem and the claim can be said in the form
pub record CanBeShown (p : Problem) (c : Claim) : Type 0 where
  pub whole : IsWhole p
  pub small : IsSmall p
  pub written : IsWritten c

-- what is shown is judged: what the check writes is its verdict on just this claim on just this problem
abbrev pub ShownIsJudged : Type 0
ShownIsJudged = (comments : List (List ℕ)) (p : Problem) (c : Claim) (ended : Bool) (told : List ℕ)
    (good : Bool) → All IsComment comments → CanBeShown p c
    → IsCheckOf (shown_text comments p c ended) told good
    → (v : Verdict) × IsVerdictOn p c v × (told ≡ verdict_text v)

-- `yes`, or `no room N` by the rule of that verdict
abbrev pub IsAcceptance : Problem → Claim → List ℕ → Type 0
IsAcceptance p c told = (told ≡ codes "yes" ++ newline ∷ [])
    ⊎ ((n : ℕ) × IsVerdictOn p c (NoRoom n) × (told ≡ codes "no room " ++ (decimal n ++ newline ∷ [])))

-- whatever the check writes of the text of the problem and of the claim, it accepts them
abbrev pub IsAcceptedClaim : Problem → Claim → Type 0
IsAcceptedClaim p c = (comments : List (List ℕ)) (ended : Bool) (told : List ℕ) (good : Bool)
    → All IsComment comments → IsCheckOf (shown_text comments p c ended) told good → IsAcceptance p c told

-- ---- what is shown

-- values as they are kept, certified by the levels of the corner at which they stand
pub record IsBestShown (p : Problem) (at : List Mark) (values : List (ℕ × Fraction)) (levels : List BestLevel)
    : Type 0 where
  pub whole : IsWhole p
  pub small : IsSmall p
  pub valued : All IsValue values
  pub rising : AreRising values
  pub kept : AreLevels levels
  pub certified : IsCertified p values levels
  pub own : IsOwnBest p at levels

-- multipliers as they are kept, which show that the required rows conflict
pub record IsConflictShown (p : Problem) (by : List By) : Type 0 where
  pub whole : IsWhole p
  pub small : IsSmall p
  pub kept : AreBys by
  pub shown : IsShownConflict p by

-- a path to what does not fit, wherever it began, its first marks in order, where these are the rows before
pub record IsUnfitShown (dual : Bool) (p : Problem) (old : List Row) (budget : ℕ) (at : UnfitPath)
    : Type 0 where
  pub whole : IsWhole p
  pub small : IsSmall p
  pub before : All IsRow old
  pub ordered : at.path.corner ≡ in_order p at.path.corner
  pub stops : IsStopOf dual p old Anywhere budget (Unfit at)

-- a path that has used the budget up
pub record IsSpentShown (dual : Bool) (p : Problem) (old : List Row) (budget : ℕ) (path : Path) : Type 0 where
  pub whole : IsWhole p
  pub small : IsSmall p
  pub ordered : path.corner ≡ in_order p path.corner
  pub stops : IsStopOf dual p old Anywhere budget (Spent path)

-- the problem in which the quantity is judged, where these are the rows before: that of the step, but where
-- changed constants are named that which has the first of them alone
abbrev pub judged_in : List Row → Problem → Quantity → Problem
judged_in old p (Plain what) = p
judged_in old p (Terms mark j) = p
judged_in old p (Rows level j) = p
judged_in old p (Shifts what j) = with_first_shifts old j p

-- ---- the laws

-- what is shown of best values is accepted
abbrev pub CertificatesAreAccepted : Type 0
CertificatesAreAccepted = (p : Problem) (at : List Mark) (values : List (ℕ × Fraction))
    (levels : List BestLevel) → IsBestShown p at values levels → IsAcceptedClaim p (IsBest values levels)

-- so is what is shown of a conflict
abbrev pub ConflictsAreAccepted : Type 0
ConflictsAreAccepted = (p : Problem) (by : List By) → IsConflictShown p by
    → IsAcceptedClaim p (IsConflict by)

-- so is a path with what does not fit at its end, in the problem in which that is judged
abbrev pub UnfitPathsAreAccepted : Type 0
UnfitPathsAreAccepted = (dual : Bool) (p : Problem) (old : List Row) (budget : ℕ) (at : UnfitPath)
    → IsUnfitShown dual p old budget at
    → IsAcceptedClaim (judged_in old p at.quantity) (IsPath at.path (Some at.quantity))

-- so is a path that has used the budget up, with no quantity
abbrev pub SpentPathsAreAccepted : Type 0
SpentPathsAreAccepted = (dual : Bool) (p : Problem) (old : List Row) (budget : ℕ) (path : Path)
    → IsSpentShown dual p old budget path → IsAcceptedClaim p (IsPath path None)

-- ---- instances

-- of some problems best values, a conflict, a path to what does not fit, and one that has used the budget up
-- are shown
pub record SomeAreShown : Type 0 where
  pub best : (p : Problem) × (at : List Mark) × (values : List (ℕ × Fraction)) × (levels : List BestLevel)
      × IsBestShown p at values levels
  pub conflict : (p : Problem) × (by : List By) × IsConflictShown p by
  pub unfit : (p : Problem) × (at : UnfitPath) × IsUnfitShown false p [] 0 at
  pub spent : (p : Problem) × (path : Path) × IsSpentShown false p [] 0 path

-- Levels may certify values and be kept by the type, and yet not be in the form, which has an order; those of
-- a corner are in it.
abbrev pub CertifiedIsNotEnough : Type 0
CertifiedIsNotEnough = (p : Problem) × (values : List (ℕ × Fraction)) × (levels : List BestLevel) × IsWhole p
    × AreLevels levels × IsCertified p values levels × (IsWritten (IsBest values levels) → ⊥)
