use Rattle.std.proofs.Common.{◌≡◌, ℕ, ◌*◌, ◌<◌, ◌≤◌, length}
use Rattle.path_lines.specs.Numbering.{AreNumbered, AreNodes, IsNode}
use Rattle.path_claims.proofs.numbering.tree_of.Given as goal

abbrev pub invariant-loop-node : goal.invariant-loop-node
invariant-loop-node l = record {
  count : length l.tree.nodes.items ≡ 2 * length l.sides;
  within : l.node ≤ length l.sides;
  numbered : AreNumbered l.tree.pairs;
  leaves : AreNodes l.tree.nodes.items l.sides;
  inner : (m : ℕ) → l.node ≤ m → 1 ≤ m → m < length l.sides → IsNode l.tree.pairs l.tree.nodes.items m;
}

abbrev pub decreases-loop-node : goal.decreases-loop-node
decreases-loop-node l = l.node
