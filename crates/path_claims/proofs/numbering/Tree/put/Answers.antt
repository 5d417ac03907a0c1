use Rattle.std.proofs.Common.{◌∙◌, ℕ, ◌+◌, List, length, length-set, ap, arith}
use Rattle.path_lines.specs.Numbering.{entry}
use Rattle.path_claims.proofs.CornerNumbers.Trees.{half_less, leaves_on, put_begins, put_leaves, put_on, put_tree, put_within}
use Rattle.path_claims.proofs.numbering.Tree.put.Goals as goal

pub loop-node-init : goal.loop-node-init
loop-node-init c = record {
  count = length-set c.args.self.now.nodes.items (c.args.count + c.args.k) c.number_of_side.result ∙ c.requires.count;
  within = put_within c.args.count c.args.k c.requires.k;
  numbered = c.requires.numbered;
  extends = λ pair n has. has;
  leaves = put_leaves c.args.self.now.nodes.items c.args.count c.args.k c.number_of_side.result c.args.side c.requires.count c.requires.k c.number_of_side.ensures;
  inner = put_begins c.args.self.now.pairs c.args.self.now.nodes.items c.args.count c.args.k c.number_of_side.result;
}

pub loop-node-preserved : goal.loop-node-preserved
loop-node-preserved c =
    let made = c.in_ok-renumber.ensures in
    let old = c.loop-node.invariant in
    record {
      count = ap (λ (xs : List ℕ). length xs) made.others ∙ length-set c.loop-node.self.nodes.items c.loop-node.node (entry c.renumber.new.self.nodes.items c.loop-node.node) ∙ old.count;
      within = omega (arith, half_less c.loop-node.node c.loop-node-test.true, old.within);
      numbered = made.numbered;
      extends = λ pair n has. made.extends pair n (old.extends pair n has);
      leaves = leaves_on c.args.count c.args.k c.loop-node.node c.args.side c.args.self.now.nodes.items c.loop-node.self.nodes.items c.renumber.new.self.nodes.items old.within made.others old.leaves;
      inner = put_on c.args.self.now.pairs c.loop-node.self.pairs c.renumber.new.self.pairs c.args.self.now.nodes.items c.loop-node.self.nodes.items c.renumber.new.self.nodes.items c.args.count c.loop-node.node made.others made.extends made.node old.inner;
    }

pub returns-clause-tree : goal.returns-clause-tree
returns-clause-tree c = λ sides long is.
    put_tree c.args.self.now.pairs c.loop-node.self.pairs c.args.self.now.nodes.items c.loop-node.self.nodes.items c.args.count c.loop-node.node c.args.k c.args.side sides c.loop-node.invariant.count c.requires.k (omega (arith, c.loop-node-test.false))
    c.loop-node.invariant.leaves c.loop-node.invariant.inner long is
