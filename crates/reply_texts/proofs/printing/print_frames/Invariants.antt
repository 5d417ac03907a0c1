use Rattle.std.proofs.Common.{◌≡◌, ◌≤◌, take, length, flat_map}
use Rattle.std.specs.Io.KnownBytes.{Appends}
use Rattle.reply_texts.specs.Frames.{frame_text}
use Rattle.reply_texts.proofs.printing.print_frames.Given as goal

abbrev pub invariant-loop-place : goal.invariant-loop-place
invariant-loop-place g l = record {
  within : l.place ≤ l.place-end;
  is_end : l.place-end ≡ length l.scene.scene.tree.views;
  written : Appends (g.K.Sink.held l.fn.sink) (g.K.Sink.held l.sink) (flat_map (frame_text l.scene.scene.values) (take l.place l.scene.scene.tree.views));
  unfailed : g.K.Sink.faults l.sink ≡ g.K.Sink.faults l.fn.sink;
}
