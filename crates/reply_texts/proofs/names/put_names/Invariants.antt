use Rattle.std.proofs.Common.{◌≡◌, ◌≤◌, ◌++◌, take, length, string_bytes, flat_map}
use Rattle.reply_texts.specs.Replies.{name_lines}
use Rattle.reply_texts.proofs.names.put_names.Given as goal

abbrev pub invariant-loop-place : goal.invariant-loop-place
invariant-loop-place l = record {
  within : l.place ≤ l.place-end;
  is_end : l.place-end ≡ length l.tree.views;
  text : string_bytes l.text ≡ string_bytes l.fn.text ++ flat_map name_lines (take l.place l.tree.views);
}
