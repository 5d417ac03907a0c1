use Rattle.std.proofs.Common.{◌≡◌, ◌∙◌, ◌<◌, ◌≤◌, ◌++◌, List, ℕ, length, take, ap, arith, flat_map}
use Rattle.std.specs.Prelude.{codes}
use Rattle.std.proofs.lemmas.Result.{err_from_is_err_and}
use Rattle.edge_io.proofs.Moves.{appends_both}
use Rattle.frac_core.specs.Fraction.{Fraction}
use Rattle.view_tree.specs.Views.{LiveView}
use Rattle.scenes.specs.Scene.{Scene}
use Rattle.reply_texts.specs.Frames.{frame_text}
use Rattle.reply_texts.specs.Replies.{frames_text, line_of}
use Rattle.reply_texts.proofs.Printed.{each_more, each_all, front_at, puts_as, puts_err, puts_then}
use Rattle.reply_texts.proofs.printing.print_frames.Goals as goal

pub loop-place-preserved : goal.loop-place-preserved
loop-place-preserved g c = record {
  within = omega (arith, c.loop-place-test.true);
  is_end = c.loop-place.invariant.is_end;
  written = rw (each_more c.state-scene.result.now.scene.values c.state-scene.result.now.scene.tree.views c.loop-place.place (omega (arith, c.loop-place-test.true, c.loop-place.invariant.is_end)))
      (appends_both _ _ _ _ _ c.loop-place.invariant.written c.in_ok-print_at.ensures.ok);
  unfailed = c.in_ok-print_at.ensures.cause.unfailed ∙ c.loop-place.invariant.unfailed;
}

pub returns-in_err-print_at : goal.returns-in_err-print_at
returns-in_err-print_at g c =
    let values : List (ℕ × Fraction) = c.state-scene.result.now.scene.values in
    let views : List LiveView = c.state-scene.result.now.scene.tree.views in
    let within : c.loop-place.place < length views = omega (arith, c.loop-place-test.true, c.loop-place.invariant.is_end) in
    let exit = err_from_is_err_and c.from_residual.result c.from_residual.ensures.1 in
    let front = front_at _ _ _ values views c.loop-place.place (line_of (codes "ok")) within c.loop-place.invariant.written c.in_err-print_at.ensures.err in
    puts_as _ _ _ _ _ _ c.from_residual.result (ap (λ (s : Scene). frames_text s) c.state-scene.ensures.scene)
    (puts_err g.K.Sink.held g.K.Sink.faults _ _ _ (frames_text c.state-scene.result.now.scene) c.from_residual.result exit.0 exit.1
    front c.loop-place.invariant.unfailed c.in_err-print_at.ensures.cause.later c.in_err-print_at.ensures.cause.failed)

pub returns : goal.returns
returns g c =
    let scene = c.state-scene.result.now.scene in
    let done : length scene.tree.views ≤ c.loop-place.place = omega (arith, c.loop-place-test.false, c.loop-place.invariant.is_end) in
    let all : flat_map (frame_text scene.values) (take c.loop-place.place scene.tree.views) ++ line_of (codes "ok") ≡ frames_text c.args.session.now.scene =
    ap (λ (t : List ℕ). t ++ line_of (codes "ok")) (each_all scene.values scene.tree.views c.loop-place.place done) ∙ ap (λ (s : Scene). frames_text s) c.state-scene.ensures.scene in
    puts_as _ _ _ _ _ _ _ all
    (puts_then g.K.Sink.held g.K.Sink.faults _ _ _ (flat_map (frame_text scene.values) (take c.loop-place.place scene.tree.views)) (line_of (codes "ok")) c.put_all.result
    c.loop-place.invariant.written c.loop-place.invariant.unfailed (record { ok = c.put_all.ensures.ok; err = c.put_all.ensures.err; cause = c.put_all.ensures.cause }))
