-- What is shown of a core, and of a trial that stops, is accepted.
use Rattle.std.proofs.Common.{false, List, [], ℕ, sym, true≢false, arith}
use Rattle.std.proofs.lemmas.List.Elements.{All-nil}
use Rattle.problem_core.specs.Kept.{IsRow}
use Rattle.problem_core.specs.Layout.{Problem, Row}
use Rattle.cert_core.specs.declared.stops.RunStop.TheVariants as run
use Rattle.layout_solver.specs.Begins.{Start}
use Rattle.conflict_core.specs.Cores.{trial}
use Rattle.conflict_core.specs.declared.found.CoreStop.TheVariants.{OutOfMemory, Spent, Unfit}
use Rattle.conflict_core.proofs.TrialWhole.{trial_few, trial_whole}
use Rattle.problem_reading.specs.ProblemForms.{IsSmall}
use Rattle.session_laws.specs.Shown.Cores.{CoresAreAccepted, TrialStopsAreAccepted}
use Rattle.session_laws.proofs.Showing.Accepted.{conflicts-accepted}
use Rattle.session_laws.proofs.Showing.Steps.{step-stops}

-- a trial is no larger than its problem
trial-small : (p : Problem) (ids : List ℕ) → IsSmall p → IsSmall (trial p ids)
trial-small p ids small = record {
  rows = (let less = (trial_few p ids).0 in let most = small.rows in omega (arith, less, most));
  stays = (let same = (trial_few p ids).1 in let most = small.stays in omega (arith, same, most));
}

pub cores-accepted : CoresAreAccepted
cores-accepted p ids by values whole small kept shown =
    conflicts-accepted (trial p ids) by (record { whole = trial_whole p ids whole; small = trial-small p ids small; kept = kept; shown = shown.refuted })

-- where all rows of a problem join an engine that holds nothing
abbrev from_nothing : Problem → Start
from_nothing p = record { dual = false; before = []; joining = p.rows; kept = [] }

pub trial-stops : TrialStopsAreAccepted
trial-stops p budget (Unfit held at) whole small (rows, h) =
    step-stops (from_nothing (trial p held.items)) (trial p held.items) budget (run.Unfit at) (trial_whole p held.items whole) (trial-small p held.items small)
    (All-nil (λ (r : Row). IsRow r)) (λ dual. absurd (true≢false (sym dual))) h
trial-stops p budget (Spent held path) whole small (rows, h) =
    step-stops (from_nothing (trial p held.items)) (trial p held.items) budget (run.Spent path) (trial_whole p held.items whole) (trial-small p held.items small)
    (All-nil (λ (r : Row). IsRow r)) (λ dual. absurd (true≢false (sym dual))) h
trial-stops p budget OutOfMemory whole small h = tt
