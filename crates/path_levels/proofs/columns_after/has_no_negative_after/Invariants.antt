use Rattle.std.proofs.Common.{ℕ, ◌<◌, List}
use Rattle.problem_core.specs.declared.parts.Mark.{Mark}
use Rattle.problem_core.specs.Layout.{Problem}
use Rattle.problem_core.specs.Corners.{IsExchange, exchanged}
use Rattle.path_lines.specs.Tables.{swap_of}
use Rattle.path_levels.specs.Costs.{HasNegative}
use Rattle.path_levels.specs.Rows.{AreKept}
use Rattle.path_levels.specs.Exchanges.WideCosts.{AreWideAt}
use Rattle.path_levels.proofs.columns_after.has_no_negative_after.Given as goal

abbrev pub invariant-loop-at : goal.invariant-loop-at
invariant-loop-at l = (k : ℕ) → k < l.at → (p : Problem) (marks : List Mark) → AreKept p marks l.exchange.corner.outline.now l.exchange.corner.lines.now → IsExchange p marks (swap_of p l.exchange.step) → AreWideAt p (exchanged (swap_of p l.exchange.step) marks) l.exchange.corner.outline.now l.next
    → HasNegative p (exchanged (swap_of p l.exchange.step) marks) k → ⊥
