use Rattle.std.proofs.Common.{◌≡◌, ◌≤◌, take, length}
use Rattle.layout_c.specs.Calls.{AreFrames}
use Rattle.layout_c.proofs.frames.fill.Given as goal

abbrev pub invariant-loop-place : goal.invariant-loop-place
invariant-loop-place l = record {
  within : l.place ≤ l.place-end;
  is_end : l.place-end ≡ length l.session.scene.tree.views;
  room : length l.session.scene.tree.views ≤ length l.room;
  placed : AreFrames l.session.scene (take l.place l.session.scene.tree.views) (take l.place l.room);
}
