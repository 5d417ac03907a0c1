use Rattle.std.proofs.Common.{◌≡◌, ◌*◌, ◌<◌, length}
use Rattle.path_lines.specs.Numbering.{AreNumbered, Extends}
use Rattle.path_claims.proofs.CornerNumbers.Trees.{AreButAbove, AreLeavesWith}
use Rattle.path_claims.proofs.numbering.Tree.put.Given as goal

abbrev pub invariant-loop-node : goal.invariant-loop-node
invariant-loop-node l = record {
  count : length l.self.nodes.items ≡ 2 * l.count;
  within : l.node < l.count;
  numbered : AreNumbered l.self.pairs;
  extends : Extends l.fn.self.pairs l.self.pairs;
  leaves : AreLeavesWith l.count l.k l.fn.side l.fn.self.nodes.items l.self.nodes.items;
  inner : AreButAbove l.count l.node l.fn.self.pairs l.fn.self.nodes.items l.self.pairs l.self.nodes.items;
}

abbrev pub decreases-loop-node : goal.decreases-loop-node
decreases-loop-node l = l.node
