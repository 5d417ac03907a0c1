use Rattle.std.proofs.Common.{◌≡◌, ◌++◌, List, ℕ, codes}
use Rattle.std.specs.List.{flat_map}
use Rattle.std.proofs.lemmas.Result.{IfOk-weaker}
use Rattle.sweep_run.specs.Told.{stretches_of}
use Rattle.reply_texts.specs.Replies.{line_of, sweep_text}
use Rattle.reply_texts.specs.Swept.{stretch_text}
use Rattle.reply_texts.proofs.Texts.{two_appended}
use Rattle.reply_texts.proofs.reply.show_swept.Goals as goal

pub returns : goal.returns
returns g c =
    let texts : List ℕ = flat_map (stretch_text c.args.session.now.scene.tree.views) (stretches_of c.args.swept.now.0.items) in
    let first : c.push_stretches.new.out.items ≡ c.args.out.now.items ++ texts = rw (c.tree.ensures, c.state.ensures.scene, c.deref.ensures.value) at c.in_ok-push_stretches.ensures in
    IfOk-weaker c.push_ok.result (λ u. c.push_ok.new.out.items ≡ c.push_stretches.new.out.items ++ line_of (codes "ok"))
    (λ u. c.push_ok.new.out.items ≡ c.args.out.now.items ++ sweep_text c.args.session.now.scene (stretches_of c.args.swept.now.0.items))
    (λ u appended. two_appended c.args.out.now.items c.push_stretches.new.out.items c.push_ok.new.out.items texts (line_of (codes "ok")) first appended)
    c.push_ok.ensures.text
