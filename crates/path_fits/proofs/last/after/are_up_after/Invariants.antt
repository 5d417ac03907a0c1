use Rattle.std.proofs.Common.{ℕ, ◌<◌, ◌≤◌, ◌⊎◌, List, get_or, Option, length, ◌≡◌}
use Rattle.problem_core.specs.declared.parts.Mark.{Mark}
use Rattle.problem_core.specs.Layout.{Problem}
use Rattle.path_lines.specs.declared.table.Inside.{Inside}
use Rattle.path_lines.specs.Exchanges.Pivots.{next_marks}
use Rattle.path_lines.specs.Tables.{IsLineAt, IsUp, line_count, name_at}
use Rattle.path_levels.specs.Exchanges.Pivots.{IsExchangePivot}
use Rattle.path_fits.proofs.last.after.are_up_after.Given as goal

abbrev pub invariant-loop-at : goal.invariant-loop-at
invariant-loop-at l = (k : ℕ) (d : Option Inside) → k < l.at → (k < l.judged) ⊎ (l.rows ≤ k) → (p : Problem) (marks : List Mark) → IsExchangePivot p marks l.pivot
    → length l.lines ≡ line_count p → IsLineAt p marks (name_at p k) (get_or l.lines k d) → IsUp p (next_marks p l.pivot marks) (name_at p k)
