-- What is shown of a core, and of a trial that stops, is accepted in the trial's problem.
use Rattle.std.specs.Prelude.{ℕ, List, [], Some, None}
use Rattle.frac_core.specs.Fraction.{Fraction}
use Rattle.problem_core.specs.Kept.{IsWhole}
use Rattle.problem_core.specs.Layout.{Problem}
use Rattle.cert_core.specs.declared.by.By.{By}
use Rattle.cert_core.specs.Claims.{AreBys}
use Rattle.conflict_core.specs.Cores.{trial}
use Rattle.conflict_core.specs.Shown.{IsShownCore}
use Rattle.conflict_core.specs.Trials.{IsCoreStop}
use Rattle.conflict_core.specs.declared.found.CoreStop.{CoreStop}
use Rattle.conflict_core.specs.declared.found.CoreStop.TheVariants.{OutOfMemory, Spent, Unfit}
use Rattle.claim_writing.specs.declared.claim.Claim.TheVariants.{IsConflict, IsPath}
use Rattle.problem_reading.specs.ProblemForms.{IsSmall}
use Rattle.session_laws.specs.Shown.Shown.{IsAcceptedClaim, judged_in}

-- the multipliers of a core are accepted as a conflict of its rows alone
abbrev pub CoresAreAccepted : Type 0
CoresAreAccepted = (p : Problem) (ids : List ℕ) (by : List By) (values : List (ℕ × List (ℕ × Fraction)))
    → IsWhole p → IsSmall p → AreBys by → IsShownCore p ids by values
    → IsAcceptedClaim (trial p ids) (IsConflict by)

-- what the stop of a trial shows is accepted with the rows that are held; where an engine begins that holds
-- nothing, no row was there before
abbrev pub IsAcceptedTrial : Problem → CoreStop → Type 0
IsAcceptedTrial p (Unfit held at) =
    IsAcceptedClaim (judged_in [] (trial p held.items) at.quantity) (IsPath at.path (Some at.quantity))
IsAcceptedTrial p (Spent held path) = IsAcceptedClaim (trial p held.items) (IsPath path None)
IsAcceptedTrial p OutOfMemory = Unit {0}

abbrev pub TrialStopsAreAccepted : Type 0
TrialStopsAreAccepted = (p : Problem) (budget : ℕ) (stop : CoreStop) → IsWhole p → IsSmall p
    → IsCoreStop p budget stop → IsAcceptedTrial p stop
