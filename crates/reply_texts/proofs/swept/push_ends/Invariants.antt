use Rattle.std.proofs.Common.{◌≡◌, ◌≤◌, ◌++◌, take, length, flat_map}
use Rattle.reply_texts.specs.Frames.{placed_text}
use Rattle.reply_texts.proofs.swept.push_ends.Given as goal

abbrev pub invariant-loop-place : goal.invariant-loop-place
invariant-loop-place l = record {
  within : l.place ≤ l.place-end;
  is_end : l.place-end ≡ length l.tree.views;
  text : l.out.items ≡ l.fn.out.items ++ flat_map (placed_text l.word l.values) (take l.place l.tree.views);
}
