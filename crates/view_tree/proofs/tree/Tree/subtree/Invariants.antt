use Rattle.std.proofs.Common.{◌≡◌, ◌≤◌, [], length, drop}
use Rattle.view_tree.proofs.DropLemmas.{grow}
use Rattle.view_tree.proofs.tree.Tree.subtree.Given as goal

abbrev pub invariant-loop-place : goal.invariant-loop-place
invariant-loop-place l = record {
  within : l.place ≤ l.place-end;
  is_end : l.place-end ≡ length l.self.views;
  few : length l.gone.items ≤ l.place;
  going : grow l.root.0 l.gone.items (drop l.place l.self.views) ≡ grow l.root.0 [] l.self.views;
}
