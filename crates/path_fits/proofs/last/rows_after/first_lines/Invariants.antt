use Rattle.std.proofs.Common.{◌≡◌, ◌<◌, ℕ, List, length, get_or, Option}
use Rattle.problem_core.specs.declared.parts.Mark.{Mark}
use Rattle.problem_core.specs.Layout.{Problem}
use Rattle.path_lines.specs.declared.table.Inside.{Inside}
use Rattle.path_lines.specs.Exchanges.Pivots.{next_marks}
use Rattle.path_lines.specs.Tables.{AreLines, IsLineAt, IsSizedLine, name_at}
use Rattle.path_fits.specs.FirstLines.{IsFirstAt}
use Rattle.path_levels.specs.Exchanges.Pivots.{IsExchangePivot}
use Rattle.path_fits.proofs.last.rows_after.first_lines.Given as goal

abbrev pub invariant-loop-at : goal.invariant-loop-at
invariant-loop-at l = record {
  count : length l.next.items ≡ l.at;
  sized : (k : ℕ) (d : Option Inside) → k < l.at → IsSizedLine (length l.last.tableau.corner.lines.now) (get_or l.next.items k d);
  lines : (k : ℕ) (d : Option Inside) → k < l.at → IsFirstAt l.last.tableau.corner.outline.now.lines.items l.firsts k → (p : Problem) (marks : List Mark) → IsExchangePivot p marks l.pivot → AreLines p marks l.last.tableau.corner.lines.now
      → IsLineAt p (next_marks p l.pivot marks) (name_at p k) (get_or l.next.items k d);
}
