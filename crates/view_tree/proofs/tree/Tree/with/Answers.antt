use Rattle.view_tree.proofs.NodeLemmas.{AreKept-window}
use Rattle.view_tree.proofs.tree.Tree.with.Goals as goal

pub invariant_of-result : goal.invariant_of-result
invariant_of-result c = rw (c.in_ok-add.ensures.added, c.new-table.ensures) (AreKept-window c.args.most c.requires.some c.requires.few)
