-- The way from a scene to a draft of it: how it is solved, and why it stops.
use Rattle.std.specs.Prelude.{◌≡◌, ℕ, ◌<◌, ◌⊎◌, List, [], ◌++◌, true, false, map, AllPairs}
use Rattle.problem_core.specs.Layout.{Row, Problem}
use Rattle.cert_core.specs.Paths.{Path}
use Rattle.cert_core.specs.declared.stops.RunStop.{RunStop}
use Rattle.layout_solver.specs.Removals.{CanLeave, HasRemoved, IsRemoveStop, Leaving, without}
use Rattle.layout_solver.specs.declared.request.RequestStop.{RequestStop}
use Rattle.layout_solver.specs.Begins.{Start, IsRunTo, IsStopFrom}
use Rattle.problem_core.specs.Unfit.{without_constant}
use Rattle.scenes.specs.Scene.{Scene, problem_of, draft_problem, AreDraftRows, Becomes, IsBestScene}
use Rattle.scenes.specs.Leaving.{stood_of}
use Rattle.cert_core.specs.declared.stops.RunStop.TheVariants as run
use Rattle.layout_solver.specs.declared.request.RequestStop.TheVariants as request
use Rattle.layout_solver.specs.Keeping.{NoConflict}
use Rattle.layout_solver.specs.Requests.{run_of, still_of}
use Rattle.scenes.specs.Drafts.{Kind, Any, Free, Left, Turned}

-- ---- solving

-- rows join those before
pub record IsJoining (rows : List Row) (s : Start) : Type 0 where
  pub primal : s.dual ≡ false
  pub parts : rows ≡ s.before ++ s.joining

-- no row joins, and the rows are those before except for their constants
pub record IsShifting (rows : List Row) (s : Start) : Type 0 where
  pub dual : s.dual ≡ true
  pub none : s.joining ≡ []
  pub alike : map without_constant rows ≡ map without_constant s.before

-- where the path from a scene to a draft with these rows begins: at the corner that is kept for the scene,
-- with the scene's rows
pub record IsStart (scene : Scene) (rows : List Row) (s : Start) : Type 0 where
  pub before : s.before ≡ scene.rows
  pub kept : s.kept ≡ scene.corner
  pub kind : IsJoining rows s ⊎ IsShifting rows s

-- the new scene is this draft with its rows and the best values; a path within the budget leads to their
-- corner
pub record IsSolved (scene draft : Scene) (budget : ℕ) (path : Path) (new : Scene) : Type 0 where
  pub becomes : Becomes draft new
  pub start : Start
  pub begins : IsStart scene new.rows start
  pub run : IsRunTo start (problem_of new) budget new.corner path

-- some path leads to it
abbrev pub HasSolved : Scene → Scene → ℕ → Scene → Type 0
HasSolved scene draft budget new = (path : Path) × IsSolved scene draft budget path new

-- how the run to the draft stops
pub record IsStopped (scene draft : Scene) (budget : ℕ) (stop : RunStop) : Type 0 where
  pub rows : List Row
  pub are : AreDraftRows draft rows
  pub start : Start
  pub begins : IsStart scene rows start
  pub stops : IsStopFrom start (draft_problem draft rows) budget stop

-- ---- leaving

-- these leave the scene's problem, and the draft has the rest as its rows
pub record IsLeaving (scene draft : Scene) (rows : List Row) (l : Leaving) : Type 0 where
  pub can : CanLeave l (stood_of scene)
  pub rising : AllPairs (λ a b. a < b) l.rows
  pub left : draft_problem draft rows ≡ without l (stood_of scene)

-- the new scene is this draft with its rows and the best values; a path within the budget leads to their
-- corner from where the rows have left the corner that is kept for the scene
pub record HasLeft (scene draft : Scene) (budget : ℕ) (new : Scene) : Type 0 where
  pub becomes : Becomes draft new
  pub leaving : Leaving
  pub leaves : IsLeaving scene draft new.rows leaving
  pub run : HasRemoved (stood_of scene) scene.corner leaving budget new.corner

-- the removal stops so
pub record CannotLeave (scene draft : Scene) (budget : ℕ) (stop : RequestStop) : Type 0 where
  pub rows : List Row
  pub are : AreDraftRows draft rows
  pub leaving : Leaving
  pub leaves : IsLeaving scene draft rows leaving
  pub stops : IsRemoveStop (stood_of scene) scene.corner leaving budget stop

-- ---- what a command would solve

-- the rows of the draft, and its stays
abbrev pub IsProblemOf : Scene → Problem → Type 0
IsProblemOf draft p = AreDraftRows draft p.rows × (p.stays ≡ draft.stays)

-- ---- stops

-- why the run from the scene to the draft stops, which may be because memory ran out
abbrev pub RunStopsAt : Scene → Scene → ℕ → RunStop → Type 0
RunStopsAt scene draft budget (run.Conflict by) = IsStopped scene draft budget (run.Conflict by)
RunStopsAt scene draft budget (run.Unfit at) = IsStopped scene draft budget (run.Unfit at)
RunStopsAt scene draft budget (run.Spent path) = IsStopped scene draft budget (run.Spent path)
RunStopsAt scene draft budget run.OutOfMemory = Unit {0}

-- why a removal stops: never for a conflict
abbrev pub LeaveStopsAt : Scene → Scene → ℕ → RequestStop → Type 0
LeaveStopsAt scene draft budget (request.Conflict by) = ⊥
LeaveStopsAt scene draft budget (request.Unfit still at) =
    CannotLeave scene draft budget (request.Unfit still at)
LeaveStopsAt scene draft budget (request.Spent path) = CannotLeave scene draft budget (request.Spent path)
LeaveStopsAt scene draft budget request.OutOfMemory = Unit {0}

-- how the run to the draft stops, and no leaving row is still held
pub record StopsRunning (scene draft : Scene) (budget : ℕ) (stop : RequestStop) : Type 0 where
  pub none : still_of stop ≡ []
  pub stops : RunStopsAt scene draft budget (run_of stop)

-- ---- the end of a step, by kind

-- the new scene is the draft; its rows are those of what it holds, and its values are the best
pub record IsTurned (draft new : Scene) : Type 0 where
  pub same : new ≡ draft
  pub rows : AreDraftRows new new.rows
  pub best : IsBestScene new

-- the step from the scene to the draft leads to the new scene
abbrev pub ComesTo : Kind → Scene → Scene → ℕ → Scene → Type 0
ComesTo Free scene draft budget new = HasSolved scene draft budget new
ComesTo Any scene draft budget new = HasSolved scene draft budget new
ComesTo Left scene draft budget new = HasLeft scene draft budget new
ComesTo Turned scene draft budget new = IsTurned draft new

-- the step from the scene to the draft stops so
abbrev pub StopsAs : Kind → Scene → Scene → ℕ → RequestStop → Type 0
StopsAs Free scene draft budget stop = StopsRunning scene draft budget stop × NoConflict (run_of stop)
StopsAs Any scene draft budget stop = StopsRunning scene draft budget stop
StopsAs Left scene draft budget stop = LeaveStopsAt scene draft budget stop
StopsAs Turned scene draft budget stop = stop ≡ request.OutOfMemory
