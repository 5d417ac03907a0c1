use Rattle.std.proofs.Common.{◌<◌, length, length-set, arith}
use Rattle.scenes.proofs.Views.ByNumber.{some-view}
use Rattle.layout_c.proofs.Placing.{next_placed}
use Rattle.layout_c.proofs.frames.fill.Goals.{in-Some, in_default}
use Rattle.layout_c.proofs.frames.fill.Goals as goal

pub loop-place-preserved : goal.loop-place-preserved
loop-place-preserved c =
    let views = c.args.session.now.scene.tree.views in let place = c.loop-place.place in let room = c.loop-place.room in
    let here : place < length views = omega (arith, c.loop-place-test.true, c.loop-place.invariant.is_end) in
    let within : place < length room = omega (arith, here, c.loop-place.invariant.room) in
    record {
      within = omega (arith, c.loop-place-test.true);
      is_end = c.loop-place.invariant.is_end;
      room = elim c.match-placed_at.branch [
        | in-Some w ↦ rw w.room-is (omega (arith, c.loop-place.invariant.room, length-set room place w.in-Some.placed))
        | in_default w ↦ rw w.room-is c.loop-place.invariant.room
      ];
      placed = elim c.match-placed_at.branch [
        | in-Some w ↦
            let at = w.in-Some.ensures.some in
            rw w.room-is (next_placed c.args.session.now.scene views place at.0 room w.in-Some.placed at.1 within at.2 c.loop-place.invariant.placed)
        | in_default w ↦ absurd (some-view views place w.in_default.ensures.none here)
      ];
    }
