-- A problem with some rows more, and the marks of its corner.
use Rattle.std.specs.Prelude.{◌⊎◌, List, ◌++◌, All}
use Rattle.problem_core.specs.declared.parts.Mark.{Mark}
use Rattle.problem_core.specs.Layout.{Problem, Row, lines}
use Rattle.problem_core.specs.Corners.{IsIn, marks_of, place}
use Rattle.problem_core.specs.Unfit.{over_mark, under_mark}

-- the problem with these rows behind its own
abbrev pub with_rows : List Row → Problem → Problem
with_rows more p = record { rows = p.rows ++ more; stays = p.stays }

-- one of the row's marks is inside
abbrev pub HasOneIn : List Mark → Row → Type 0
HasOneIn at r = IsIn (place (under_mark r.id)) at ⊎ IsIn (place (over_mark r.id)) at

-- the marks of the problem that are inside are the same
pub record AreJoined (p : Problem) (at joined : List Mark) : Type 0 where
  pub kept : All (λ m. IsIn (place m) joined) at
  pub no_other : All (λ m. IsIn (place m) joined → IsIn (place m) at) (marks_of (lines p))
