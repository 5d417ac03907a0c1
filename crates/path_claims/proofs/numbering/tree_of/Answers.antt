use Rattle.std.proofs.Common.{arith}
use Rattle.path_claims.proofs.numbering.tree_of.Goals as goal

pub returns-clause-tree : goal.returns-clause-tree
returns-clause-tree c = record {
  count = c.loop-node.invariant.count;
  leaves = c.loop-node.invariant.leaves;
  inner = λ j one less. c.loop-node.invariant.inner j (omega (arith, c.loop-node-test.false, one)) one less;
}
