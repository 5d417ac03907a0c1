use Rattle.std.proofs.Common.{◌≡◌, ◌≤◌, take, length, None}
use Rattle.view_tree.specs.Views.{view_of}
use Rattle.layout_c.proofs.names.place_of.Given as goal

abbrev pub invariant-loop-place : goal.invariant-loop-place
invariant-loop-place l = record {
  within : l.place ≤ l.place-end;
  is_end : l.place-end ≡ length l.tree.views;
  before : view_of (take l.place l.tree.views) l.id ≡ None;
}
