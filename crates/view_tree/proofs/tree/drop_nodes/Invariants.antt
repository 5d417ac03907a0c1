use Rattle.std.proofs.Common.{◌≡◌, ◌≤◌, length}
use Rattle.view_tree.specs.Drops.{is_among}
use Rattle.view_tree.proofs.DropLemmas.{back}
use Rattle.view_tree.proofs.tree.drop_nodes.Given as goal

abbrev pub invariant-loop-place : goal.invariant-loop-place
invariant-loop-place l = record {
  within : l.place ≤ length l.fn.table;
  is : l.table ≡ back (λ e. is_among l.gone e.1.id.0) l.place l.fn.table;
}

abbrev pub decreases-loop-place : goal.decreases-loop-place
decreases-loop-place l = l.place
