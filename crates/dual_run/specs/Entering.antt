-- Which mark has the least column over its number.
use Rattle.std.specs.Prelude.{◌≡◌, ℕ, List, ℤ, pos, ◌*ℤ◌, ◌-ℤ◌, ◌≤ℤ◌, ◌<ℤ◌, All, AllPairs, Contains}
use Rattle.std.specs.Prelude.{IfSome, IfNone}
use Rattle.problem_core.specs.declared.parts.Mark.{Mark}
use Rattle.problem_core.specs.declared.parts.Level.{Level}
use Rattle.problem_core.specs.declared.parts.RowName.{RowName}
use Rattle.problem_core.specs.declared.parts.Side.{Side}
use Rattle.problem_core.specs.Layout.{Problem, coefficient}
use Rattle.problem_core.specs.Certificates.{IsLexNonnegative}
use Rattle.problem_core.specs.Corners.{place}
use Rattle.corner_laws.specs.Runs.{Writes, Writing}
use Rattle.corner_view.specs.Fronts.{HasNoFront, IsFrontOf}
use Rattle.corner_view.specs.Seen.{IsInUse, IsMarkOf, IsOutside, IsStronger}
use Rattle.corner_view.specs.Entries.{HasEntry}
use Rattle.corner_ends.specs.Columns.{Reduced}
use Rattle.dual_run.specs.declared.ratios.Choice.{Choice}
use Rattle.dual_run.specs.declared.ratios.Found.{Found}

-- the levels at which lines stand, strongest first
pub record AreLevels (p : Problem) (levels : List Level) : Type 0 where
  pub used : All (IsInUse p) levels
  pub all : (level : Level) → IsInUse p level → Contains levels level
  pub in_order : AllPairs (IsStronger p) levels

-- a mark of the problem, with a number above 0
pub record IsPositive (p : Problem) (f : Choice) : Type 0 where
  pub mark : IsMarkOf p f.mark
  pub above : pos 0 <ℤ f.by

-- the mark's number in the leaving one's writing
abbrev pub IsNumberOf : Problem → List Mark → Mark → Mark → ℤ → Type 0
IsNumberOf p at leave m z = (w : Writing) → Writes p at (place leave) w → z ≡ coefficient (place m) w.form

-- the mark is outside, and the leaving one grows with it by this number
pub record IsChoice (p : Problem) (at : List Mark) (leave : Mark) (f : Choice) : Type 0 where
  pub outside : IsOutside p at f.mark
  pub above : pos 0 <ℤ f.by
  pub by : IsNumberOf p at leave f.mark f.by

-- the front is that of the choice's mark
pub record HasFront (p : Problem) (at : List Mark) (f : Found) : Type 0 where
  pub some : IfSome f.front (IsFrontOf p at f.choice.mark)
  pub none : IfNone f.front (HasNoFront p at f.choice.mark)

-- it is a choice with its mark's front
pub record IsFound (p : Problem) (at : List Mark) (leave : Mark) (f : Found) : Type 0 where
  pub choice : IsChoice p at leave f.choice
  pub front : HasFront p at f

-- the leaving mark doesn't grow with this one
abbrev pub NeverGrows : Problem → List Mark → Mark → Mark → Type 0
NeverGrows p at leave m = (w : Writing) → Writes p at (place leave) w
    → pos 0 <ℤ coefficient (place m) w.form → ⊥

-- nor with either mark of the line
abbrev pub HasNoGrower : Problem → List Mark → Mark → RowName → Type 0
HasNoGrower p at leave name = (side : Side) → NeverGrows p at leave (record { row = name; side = side })

-- the column of c over `by` is no greater than that of d over `other`
abbrev pub IsLesser : (ℕ → ℕ → ℤ) → ℕ → ℤ → ℕ → ℤ → Type 0
IsLesser costs c by d other = IsLexNonnegative (λ level. by *ℤ costs level d -ℤ other *ℤ costs level c)

-- the first one's column over its number is no greater
abbrev pub IsNoGreater : Problem → List Mark → Choice → Choice → Type 0
IsNoGreater p at a b = (r : Reduced p at) → IsLesser r.costs (place a.mark) a.by (place b.mark) b.by

-- nor than that of this mark, if the leaving one grows with it
abbrev pub IsBeforeMark : Problem → List Mark → Mark → Choice → Mark → Type 0
IsBeforeMark p at leave f m = (w : Writing) → Writes p at (place leave) w
    → pos 0 <ℤ coefficient (place m) w.form
    → (r : Reduced p at) → IsLesser r.costs (place f.mark) f.by (place m) (coefficient (place m) w.form)

-- nor than those of the line's marks
abbrev pub IsBeforeLine : Problem → List Mark → Mark → Choice → RowName → Type 0
IsBeforeLine p at leave f name = (side : Side)
    → IsBeforeMark p at leave f (record { row = name; side = side })

-- nor than those of the lines that have a number in the leaving mark's writing
abbrev pub IsBeforeEntries : Problem → List Mark → Mark → Choice → Type 0
IsBeforeEntries p at leave f = (name : RowName) → HasEntry p at leave name → IsBeforeLine p at leave f name

-- ---- what the required rows decide

-- the mark costs at their level
abbrev pub IsDear : Problem → List Mark → Mark → Type 0
IsDear p at m = (r : Reduced p at) → pos 0 <ℤ r.costs 0 (place m)

-- it doesn't
abbrev pub IsFree : Problem → List Mark → Mark → Type 0
IsFree p at m = (r : Reduced p at) → r.costs 0 (place m) ≤ℤ pos 0

-- it does, if the leaving mark grows with it
abbrev pub IsDearMark : Problem → List Mark → Mark → Mark → Type 0
IsDearMark p at leave m = (w : Writing) → Writes p at (place leave) w
    → pos 0 <ℤ coefficient (place m) w.form → IsDear p at m

-- so do those of all lines that have a number in the leaving mark's writing
abbrev pub AreDear : Problem → List Mark → Mark → Type 0
AreDear p at leave = (name : RowName) → HasEntry p at leave name
    → (side : Side) → IsDearMark p at leave (record { row = name; side = side })
