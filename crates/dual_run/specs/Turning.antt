-- Which lines turn: the required rows alone decide it.
use Rattle.std.specs.Prelude.{◌≡◌, List, true}
use Rattle.problem_core.specs.declared.parts.Mark.{Mark}
use Rattle.problem_core.specs.Layout.{Problem}
use Rattle.corner_laws.specs.Runs.{other_mark}
use Rattle.dual_run.specs.declared.leaving.Leave.{Leave}
use Rattle.dual_run.specs.Entering.{AreDear, IsFree}
use Rattle.dual_run.specs.Leaving.{IsLow, MayLeave}

-- of all marks with which the inside one grows its line's other mark alone costs nothing at their level
pub record MayTurn (p : Problem) (at : List Mark) (m : Mark) : Type 0 where
  pub free : IsFree p at (other_mark m)
  pub dear : AreDear p at m

-- its mark is inside, the value of that is negative, and its line turns if so noted
pub record IsLeave (p : Problem) (at : List Mark) (f : Leave) : Type 0 where
  pub low : IsLow p at f.mark
  pub turns : f.turns ≡ true → MayTurn p at f.mark

-- its mark may leave, and its line turns if so noted
pub record IsNext (p : Problem) (at : List Mark) (f : Leave) : Type 0 where
  pub may : MayLeave p at f.mark
  pub turns : f.turns ≡ true → MayTurn p at f.mark
