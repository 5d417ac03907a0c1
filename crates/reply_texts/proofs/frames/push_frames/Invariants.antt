use Rattle.std.proofs.Common.{◌≡◌, ◌≤◌, ◌++◌, take, length, flat_map}
use Rattle.reply_texts.specs.Frames.{frame_text}
use Rattle.reply_texts.proofs.frames.push_frames.Given as goal

abbrev pub invariant-loop-place : goal.invariant-loop-place
invariant-loop-place g l = record {
  within : l.place ≤ l.place-end;
  is_end : l.place-end ≡ length l.scene.scene.tree.views;
  text : l.out.items ≡ l.fn.out.items ++ flat_map (frame_text l.scene.scene.values) (take l.place l.scene.scene.tree.views);
}
