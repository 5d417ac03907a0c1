use Rattle.std.proofs.Common.{◌≡◌, ℕ, ◌+◌, ◌≤◌, length}
use Rattle.path_lines.specs.Numbering.{AreNumbered, IsTree, corner_at, entry}
use Rattle.path_claims.proofs.CornerNumbers.Trees.{IsNumbered}
use Rattle.path_claims.proofs.numbering.corner_numbers.Given as goal

abbrev pub invariant-loop-step : goal.invariant-loop-step
invariant-loop-step l = record {
  numbered : AreNumbered l.tree.pairs;
  tree : IsTree l.tree.pairs l.tree.nodes.items (corner_at l.first l.steps l.step-index);
  count : length l.numbers.items ≡ l.step-index + 1;
  each : (j : ℕ) → j ≤ l.step-index → IsNumbered l.tree.pairs (corner_at l.first l.steps j) (entry l.numbers.items j);
}
