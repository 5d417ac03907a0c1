use Rattle.std.proofs.Common.{◌≡◌, ◌≤◌, drop, length}
use Rattle.reply_texts.specs.Found.{attr_name}
use Rattle.reply_texts.proofs.found.push_attr.Given as goal

abbrev pub invariant-loop-place : goal.invariant-loop-place
invariant-loop-place l = record {
  within : l.place ≤ l.place-end;
  is_end : l.place-end ≡ length l.tree.views;
  same : l.out.items ≡ l.fn.out.items;
  name : attr_name l.tree.views l.attr ≡ attr_name (drop l.place l.tree.views) l.attr;
}
