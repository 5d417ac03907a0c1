-- The stops of trials: another constant once rows have joined, and the next of rows that join one after another.
use Rattle.std.proofs.Common.{◌≡◌, ℕ, ◌+◌, false, List, take, drop, refl, sym, subst}
use Rattle.frac_core.specs.declared.memory.Stop.TheVariants.{Refused, OutOfMemory as NoMemory}
use Rattle.problem_core.specs.declared.parts.Mark.{Mark}
use Rattle.problem_core.specs.declared.stops.Quantity.{Quantity}
use Rattle.problem_core.specs.Changes.Stops.{TableStop}
use Rattle.problem_core.specs.Layout.{Problem, Row}
use Rattle.cert_core.specs.Stops.{IsStopOf}
use Rattle.cert_core.specs.declared.stops.RunStop.{RunStop}
use Rattle.cert_core.specs.declared.stops.RunStop.TheVariants.{OutOfMemory}
use Rattle.corner_view.specs.AddStops.{FromAdded}
use Rattle.corner_view.specs.Stops.{IsUnfitStop}
use Rattle.corner_ends.specs.Runs.{IsBestEnd}
use Rattle.corner_laws.specs.Lifts.{with_rows}
use Rattle.corner_lines.specs.Shifts.{with_constant}
use Rattle.layout_solver.specs.declared.engine.Change.{Change}
use Rattle.layout_solver.specs.declared.trying.TrialStop.{TrialStop}
use Rattle.layout_solver.specs.declared.trying.TrialStop.TheVariants.{Joining, Changing, Running}
use Rattle.layout_solver.specs.Starts.{HasAdded, as_problem}
use Rattle.layout_solver.specs.Trials.{IsChangeStop, IsJoinStop, IsTrialStop}
use Rattle.layout_solver.proofs.Starts.FirstRows.{next_rows}

-- ---- another constant

-- what a stop of a table is told as
pub change_stop_is : (p : Problem) (at : List Mark) (to : Change) (budget : ℕ) (stop : TableStop) (told : TrialStop) → ((q : Quantity) → stop ≡ Refused q → told ≡ Changing q) → (stop ≡ NoMemory → told ≡ Running OutOfMemory)
    → IsUnfitStop (with_constant to.row to.constant p) at stop → IsChangeStop p at to budget told
change_stop_is p at to budget (Refused q) told refused memory h = subst (IsChangeStop p at to budget) (sym (refused q refl)) h
change_stop_is p at to budget NoMemory told refused memory h = subst (IsChangeStop p at to budget) (sym (memory refl)) tt

-- a change that stops at a best corner with the rows is a stop of the trial
pub trial_stop : (p : Problem) (old : List Row) (kept : List Mark) (rows : List Row) (to : Change) (budget : ℕ) (at : List Mark) (stop : TrialStop) → HasAdded p kept rows budget at → IsBestEnd p at
    → IsChangeStop p at to budget stop → IsTrialStop p old kept rows to budget stop
trial_stop p old kept rows to budget at (Joining stop) run end h = absurd h
trial_stop p old kept rows to budget at (Changing quantity) run end h = (at, run, end, h)
trial_stop p old kept rows to budget at (Running stop) run end h = (at, run, end, h)

-- ---- rows one after another

module _ (p : Problem) (rows : List Row) (i : ℕ) (held : p.rows ≡ take i rows) (budget : ℕ) (kept : List Mark) where
  -- the path of the next row
  pub next_path : (last : List Mark) → HasAdded (with_rows (take 1 (drop i rows)) p) kept (take 1 (drop i rows)) budget last → HasAdded (as_problem (take (i + 1) rows) p.stays) kept (take 1 (drop i rows)) budget last
  next_path last run = subst (λ (q : Problem). HasAdded q kept (take 1 (drop i rows)) budget last) (next_rows p rows i held) run

  -- and its stop
  pub next_stop : (stop : RunStop) → IsStopOf false (with_rows (take 1 (drop i rows)) p) p.rows (FromAdded (with_rows (take 1 (drop i rows)) p) kept (take 1 (drop i rows))) budget stop
      → IsJoinStop p.stays rows budget i kept stop
  next_stop stop h =
      subst (λ (q : Problem). IsStopOf false q (take i rows) (FromAdded q kept (take 1 (drop i rows))) budget stop) (next_rows p rows i held)
      (subst (λ (rs : List Row). IsStopOf false (with_rows (take 1 (drop i rows)) p) rs (FromAdded (with_rows (take 1 (drop i rows)) p) kept (take 1 (drop i rows))) budget stop) held h)
