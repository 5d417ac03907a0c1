-- With room each line is answered.
use Rattle.std.specs.Prelude.{◌≡◌, ◌≢◌, ◌⊎◌, ℕ, ◌<◌, ◌≤◌, true, List, [], ◌∷◌}
use Rattle.frac_core.specs.Fraction.{Fraction}
use Rattle.problem_core.specs.declared.parts.Mark.{Mark}
use Rattle.problem_core.specs.Layout.{Assignment, IsInConflict, Problem, Row, Satisfies}
use Rattle.cert_core.specs.declared.by.By.{By}
use Rattle.corner_laws.specs.Laws.{AllFit}
use Rattle.conflict_core.specs.Cores.{IsCore}
use Rattle.script_text.specs.Meaning.{Change, Plain, Said}
use Rattle.script_text.specs.Meaning as mean
use Rattle.session_undo.specs.declared.limits.TheConstants.{BUDGET_LIMIT}
use Rattle.session_undo.specs.Adding.{NoAnswer, NoEnd}
use Rattle.session_undo.specs.Machine.{ChangeStep, Finds, LeftSpends, PlainStep, PosesChange, ProbeSpends}
use Rattle.scenes.specs.Steps.{IsProblemOf}
use Rattle.session_undo.specs.Machine.{Spends, TellsSweep, Tried, TriedMetric, TriedPlain}
use Rattle.session_undo.specs.Explaining.{SaidStep, WhyStep}
use Rattle.session_undo.specs.Replies.{Conflict, Core, Done, Reply, Solvable, is_accepted}
use Rattle.scenes.specs.Leaving.{stood_of}
use Rattle.scenes.specs.Scene.{Scene, first_scene, problem_of}
use Rattle.session_undo.specs.State.{IsFirst, State}
use Rattle.session_laws.specs.Answered.Examples.{steep}
use Rattle.session_laws.specs.Answered.Bounds.{AreBounds}
use Rattle.session_laws.specs.Answered.Room.{HasRoomToExplain, HasRoomToLeave, HasRoomToProbe, HasRoomToStep}
use Rattle.session_laws.specs.Answered.Room.{HasRoomToSweep}
use Rattle.session_laws.specs.Answered.Room.{IsLarge, IsProbed}
use Rattle.session_laws.specs.Answered.Room.{probe_problem}
use Rattle.session_laws.specs.Answered.States.{bounded_state, held_state}

-- ---- changes

-- the required rows have a solution, and the command is accepted
abbrev pub IsAccepted : Problem → Reply → Type 0
IsAccepted p reply = ((x : Assignment) × Satisfies p x) × (reply ≡ Done)

-- that, or they have none, and it is refused for their conflict
abbrev pub IsDecided : Problem → Reply → Type 0
IsDecided p reply = IsAccepted p reply ⊎ (IsInConflict p × ((by : List By) × (reply ≡ Conflict by)))

-- the reply to a change, if this is its problem: new views, removals, another direction and a kept view are
-- never in conflict
abbrev pub ComesTo : Change → Problem → Reply → Type 0
ComesTo (mean.Views new) = IsAccepted
ComesTo (mean.Update new) = IsDecided
ComesTo (mean.Leave gone) = IsAccepted
ComesTo (mean.Turn to) = IsAccepted
ComesTo (mean.Keep name) = IsAccepted

-- where there is room for the change's problem, a cause is against it, or it is answered so
abbrev pub ChangesAreAnswered : Type 0
ChangesAreAnswered = (old : State) (c : Change) (reply : Reply) (new : State)
    → ((p : Problem) → PosesChange old c p → HasRoomToStep old c p) → ChangeStep old c reply new
    → Tried old c NoEnd reply new ⊎ ((p : Problem) × PosesChange old c p × ComesTo c p reply)

-- ---- questions

-- the required rows have a solution, and the reply says so; or it shows a core of them
abbrev pub IsExplained : Problem → Reply → Type 0
IsExplained p reply = (((x : Assignment) × Satisfies p x) × (reply ≡ Solvable))
    ⊎ ((ids : List ℕ) × (by : List By) × (values : List (ℕ × List (ℕ × Fraction))) × IsCore p ids
    × (reply ≡ Core ids by values))

-- if each trial of the change's problem has room, the reply is a cause against the change, or says whether it
-- would be in conflict, and nothing changes
abbrev pub QuestionsAreAnswered : Type 0
QuestionsAreAnswered = (old : State) (c : Change) (reply : Reply) (new : State)
    → ((p : Problem) → PosesChange old c p → HasRoomToExplain old.budget p) → WhyStep old c reply new
    → Tried old c NoEnd reply new
    ⊎ ((new ≡ old) × ((p : Problem) × PosesChange old c p × IsExplained p reply))

-- ---- other commands

-- with room for each probe what is found is told
abbrev pub ProbesAreAnswered : Type 0
ProbesAreAnswered = (old : State) (reply : Reply) (new : State) → HasRoomToProbe old
    → PlainStep old mean.Diagnose reply new → Finds old reply new

-- with room for it a sweep's stretches are told, unless a cause is against it
abbrev pub SweepsAreAnswered : Type 0
SweepsAreAnswered = (old : State) (from to : Fraction) (reply : Reply) (new : State)
    → HasRoomToSweep old from to → PlainStep old (mean.Sweep from to) reply new
    → TriedPlain old (mean.Sweep from to) NoAnswer reply new ⊎ TellsSweep old from to reply new

-- a question other than `diagnose` and `sweep`, `undo` with an earlier scene, a budget within its limits
abbrev pub NeedsNoRoom : State → Plain → Type 0
NeedsNoRoom old mean.Undo = old.earlier ≢ []
NeedsNoRoom old (mean.Budget exchanges) = (0 < exchanges) × (exchanges ≤ BUDGET_LIMIT)
NeedsNoRoom old mean.Frames = Unit {0}
NeedsNoRoom old mean.Rows = Unit {0}
NeedsNoRoom old mean.Certify = Unit {0}
NeedsNoRoom old mean.Diagnose = ⊥
NeedsNoRoom old (mean.Sweep from to) = ⊥

-- a blank line, a comment, or such a command
abbrev pub SaysNoRoom : State → Said → Type 0
SaysNoRoom old mean.Nothing = Unit {0}
SaysNoRoom old (mean.Does (mean.Changes c)) = ⊥
SaysNoRoom old (mean.Does (mean.Other c)) = NeedsNoRoom old c
SaysNoRoom old (mean.Why c) = ⊥

-- these are accepted, whatever the numbers and the budget
abbrev pub OthersAreAccepted : Type 0
OthersAreAccepted = (old : State) (said : Said) (reply : Reply) (new : State) → SaysNoRoom old said
    → SaidStep old said reply new → is_accepted reply ≡ true

-- ---- budgets

-- no run over a draft uses up a budget that is large for it, and no probe one that is large for the probe
pub record LargeBudgetsAreNeverSpent : Type 0 where
  pub drafts : (old : State) (draft : Scene) (reply : Reply) (new : State)
      → ((p : Problem) → IsProblemOf draft p → IsLarge old.budget p)
      → Spends draft old reply new ⊎ LeftSpends draft old reply new → ⊥
  pub probes : (old : State) (reply : Reply) (new : State)
      → ((attr : ℕ) (f : Fraction) → IsProbed old.scene attr f
      → IsLarge old.budget (probe_problem old.scene attr f))
      → ProbeSpends old reply new → ⊥

-- ---- the first session

-- a metric is accepted there, with the budget that is there, unless a cause is against it
abbrev pub FirstMetricsAreAccepted : Type 0
FirstMetricsAreAccepted = (first : State) → IsFirst first → (name : List ℕ) (value : Fraction) (reply : Reply)
    (new : State) → ChangeStep first (mean.Update (mean.Metric name value)) reply new
    → TriedMetric first name value NoEnd reply new ⊎ (reply ≡ Done)

-- ---- room, where there is some and where there is none

-- at each corner of the first scene's problem each quantity fits
abbrev pub FirstSceneFits : Type 0
FirstSceneFits = (corner : List Mark) → AllFit (problem_of (first_scene corner)) (first_scene corner).rows

-- where the height is 2^30 times a width that was 4096 before, some quantity doesn't fit at some corner
abbrev pub SteepDoesNotFit : Type 0
SteepDoesNotFit = (before : List Row) → AllFit steep before → ⊥

-- where no row is new and no constant changes, each quantity fits at each corner of a problem whose rows
-- bound one attribute each
abbrev pub BoundsFit : Type 0
BoundsFit = (p : Problem) → AreBounds p → AllFit p p.rows

-- so a removal from such rows to such rows has room, with a budget that is large for what is left
abbrev pub BoundRemovalsHaveRoom : Type 0
BoundRemovalsHaveRoom = (old : State) (p : Problem) → AreBounds (stood_of old.scene) → AreBounds p
    → IsLarge old.budget p → HasRoomToLeave old p

-- where one attribute has a row, by a line of a group, there is room for the group's removal
abbrev pub RemovalHasRoom : Type 0
RemovalHasRoom = (p : Problem) → PosesChange held_state (mean.Leave (mean.Remove [])) p
    → HasRoomToStep held_state (mean.Leave (mean.Remove [])) p

-- there is room for the removal of the group whose row comes before those of the suggestions
abbrev pub MiddleRemovalHasRoom : Type 0
MiddleRemovalHasRoom = (p : Problem) → PosesChange bounded_state (mean.Leave (mean.Remove (103 ∷ []))) p
    → HasRoomToStep bounded_state (mean.Leave (mean.Remove (103 ∷ []))) p
