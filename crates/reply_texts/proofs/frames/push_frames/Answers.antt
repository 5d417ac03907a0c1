use Rattle.std.proofs.Common.{arith}
use Rattle.reply_texts.specs.Frames.{frame_text}
use Rattle.reply_texts.proofs.EachView.{text_more, view_there}
use Rattle.reply_texts.proofs.frames.push_frames.Goals as goal

pub loop-place-preserved : goal.loop-place-preserved
loop-place-preserved g c =
    let views = c.args.scene.now.scene.tree.views in
    let there = view_there views c.loop-place.place (omega (arith, c.loop-place-test.true, c.loop-place.invariant.is_end)) in
    record {
      within = omega (arith, c.loop-place-test.true);
      is_end = c.loop-place.invariant.is_end;
      text = text_more (frame_text c.args.scene.now.scene.values) views c.loop-place.place there.0 c.args.out.now.items c.loop-place.out.items c.push_at.new.out.items
          there.1 c.loop-place.invariant.text (c.in_ok-push_at.ensures.line there.0 there.1);
    }
