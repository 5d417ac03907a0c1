use Rattle.std.proofs.Common.{◌≡◌, ◌+◌, ◌++◌, List, drop, length}
use Rattle.view_tree.specs.Plans.{AreNew, grown, pairs_of}
use Rattle.view_tree.specs.Views.{LiveView}
use Rattle.view_tree.proofs.tree.Tree.add_all.Given as goal

abbrev pub invariant-loop-view : goal.invariant-loop-view
invariant-loop-view l = record {
  new : AreNew l.self (drop l.view-index (pairs_of l.views));
  same : grown l.self (drop l.view-index (pairs_of l.views)) ≡ grown l.fn.self (pairs_of l.views);
  later : (views : List LiveView) × (l.self ≡ record l.fn.self { views = l.fn.self.views ++ views; next = l.fn.self.next + length views });
}
