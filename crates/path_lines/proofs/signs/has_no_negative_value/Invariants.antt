use Rattle.std.proofs.Common.{ℕ, ◌<◌, List, get_or, Option}
use Rattle.problem_core.specs.declared.parts.Mark.{Mark}
use Rattle.problem_core.specs.declared.parts.RowName.{RowName}
use Rattle.problem_core.specs.Layout.{Problem}
use Rattle.path_lines.specs.declared.table.Inside.{Inside}
use Rattle.path_lines.specs.Tables.{IsLineAt, IsThere, IsUp}
use Rattle.path_lines.proofs.signs.has_no_negative_value.Given as goal

abbrev pub invariant-loop-line : goal.invariant-loop-line
invariant-loop-line l = (k : ℕ) (d : Option Inside) → k < l.line-index → (p : Problem) (at : List Mark) (name : RowName) → IsThere p at
    → IsLineAt p at name (get_or l.lines k d) → IsUp p at name
