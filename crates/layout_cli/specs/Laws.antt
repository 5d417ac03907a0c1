-- The laws of runs.
use Rattle.std.specs.Prelude.{◌≡◌, ℕ, Bool, List, [], ◌==◌, Some}
use Rattle.frac_core.specs.Fraction.{Fraction}
use Rattle.problem_core.specs.Layout.{Problem, IsProblem}
use Rattle.layout_solver.specs.Layouts.{AreBest}
use Rattle.session_undo.specs.State.{State, IsBestState}
use Rattle.layout_cli.specs.Making.{Refuses}
use Rattle.name_tables.specs.Names.{value_of}
use Rattle.line_by_line.specs.Answers.{AreAnswered}
use Rattle.scene_host.specs.Hosts.{Named}
use Rattle.scene_host.specs.Laws.{RunsAlone}
use Rattle.layout_cli.specs.Hosted.{IsHosted, IsNewTalk}
use Rattle.layout_cli.specs.Machine.{Run, Talking, Talks}

-- a problem has at most one list of best values
abbrev pub BestValuesAreUnique : Type 0
BestValuesAreUnique = (p : Problem) → IsProblem p → (u v : List (ℕ × Fraction)) → AreBest p u → AreBest p v
    → u ≡ v

-- over any lines, a run leads from best values to best values, in the scene and in all that are kept
abbrev pub RunsLeadToBestValues : Type 0
RunsLeadToBestValues = (old new : State) (lines : List (List ℕ)) (text : List ℕ) (good : Bool)
    → IsBestState old → Run old lines text good new → IsBestState new

-- where the refusals of lines are counted there is a run of the lines, good where none is refused
abbrev pub CountedRunsAreRuns : Type 0
CountedRunsAreRuns = (old new : State) (lines : List (List ℕ)) (refused : ℕ) → Refuses old lines refused new
    → (text : List ℕ) × (good : Bool) × Run old lines text good new × (good ≡ (refused == 0))

-- In a run of a script for many sessions, what is told under a name is a run of that name's lines alone, from
-- a new session with a host's limits to the one that stands under it in the end.
abbrev pub HostedSessionsRunAlone : Type 0
HostedSessionsRunAlone = (lines : List (List ℕ)) (text : List ℕ) (good : Bool) (new : Named Talking)
    → AreAnswered IsHosted [] lines text good new → (name : List ℕ) (last : Talking)
    → value_of new name ≡ Some last → RunsAlone Talks IsNewTalk name lines text last
