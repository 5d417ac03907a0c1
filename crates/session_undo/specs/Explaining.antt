-- Why a change would clash, and what a line leads to that says a command or asks this of a change.
use Rattle.std.specs.Prelude.{◌⊎◌, ℕ, List}
use Rattle.std.specs.Global.{Vec}
use Rattle.frac_core.specs.Fraction.{Fraction}
use Rattle.problem_core.specs.Kept.{IsWhole}
use Rattle.problem_core.specs.Layout.{Assignment, Problem, Satisfies}
use Rattle.cert_core.specs.declared.by.By.{By}
use Rattle.cert_core.specs.Paths.{Path}
use Rattle.cert_core.specs.declared.stops.UnfitPath.{UnfitPath}
use Rattle.conflict_core.specs.Cores.{IsCore}
use Rattle.conflict_core.specs.Shown.{IsShownCore}
use Rattle.conflict_core.specs.Trials.{IsCoreStop}
use Rattle.conflict_core.specs.declared.found.CoreStop.TheVariants as trial
use Rattle.script_text.specs.Meaning.{Change, Said}
use Rattle.script_text.specs.Meaning as mean
use Rattle.scenes.specs.Scene.{Scene}
use Rattle.scenes.specs.Steps.{IsProblemOf}
use Rattle.session_undo.specs.Adding.{NoEnd}
use Rattle.session_undo.specs.Machine.{Keeps, CommandStep, PosesChange, Tried}
use Rattle.session_undo.specs.Replies.{Reply, Core, Held, Nothing, Solvable, Overflow, Spent}
use Rattle.session_undo.specs.State.{State}

-- the problem is one that the types can hold, its required rows have a solution, and the reply says that
-- there is no conflict
pub record FindsNone (old : State) (p : Problem) (reply : Reply) (new : State) : Type 0 where
  pub whole : IsWhole p
  pub solution : Assignment
  pub satisfies : Satisfies p solution
  pub told : Keeps Solvable old reply new

-- the reply has a core of the problem, and what shows it
pub record FindsCore (old : State) (p : Problem) (reply : Reply) (new : State) : Type 0 where
  pub ids : List ℕ
  pub by : List By
  pub values : List (ℕ × List (ℕ × Fraction))
  pub core : IsCore p ids
  pub shown : IsShownCore p ids by values
  pub told : Keeps (Core ids by values) old reply new

-- in the trial of these rows a quantity doesn't fit at the end of a path within the budget
pub record TrialOverflows (old : State) (p : Problem) (reply : Reply) (new : State) : Type 0 where
  pub held : Vec ℕ
  pub at : UnfitPath
  pub stopped : IsCoreStop p old.budget (trial.Unfit held at)
  pub refused : Keeps (Overflow (Held held.items) at.path at.quantity) old reply new

-- the path of the trial of these rows has just the budget's exchanges, and its last corner is no end
pub record TrialSpends (old : State) (p : Problem) (reply : Reply) (new : State) : Type 0 where
  pub held : Vec ℕ
  pub path : Path
  pub stopped : IsCoreStop p old.budget (trial.Spent held path)
  pub refused : Keeps (Spent (Held held.items) path) old reply new

-- what the required rows of the problem come to is told, or why a trial stops; nothing changes
abbrev pub Explains : State → Problem → Reply → State → Type 0
Explains old p reply new =
    FindsNone old p reply new ⊎ FindsCore old p reply new ⊎ TrialOverflows old p reply new
    ⊎ TrialSpends old p reply new

-- the same of the problem of a draft
abbrev pub ExplainsDraft : State → Scene → Reply → State → Type 0
ExplainsDraft old draft reply new = (p : Problem) × IsProblemOf draft p × Explains old p reply new

-- what asking why leads to: a cause is against the change, or the problem that it would solve is explained
abbrev pub WhyStep : State → Change → Reply → State → Type 0
WhyStep old c reply new =
    Tried old c NoEnd reply new ⊎ ((p : Problem) × PosesChange old c p × Explains old p reply new)

-- what a line that says this leads to
abbrev pub SaidStep : State → Said → Reply → State → Type 0
SaidStep old mean.Nothing = Keeps Nothing old
SaidStep old (mean.Does c) = CommandStep old c
SaidStep old (mean.Why c) = WhyStep old c
