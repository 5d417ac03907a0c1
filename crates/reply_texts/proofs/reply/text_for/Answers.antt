use Rattle.std.proofs.Common.{◌≡◌, ◌++◌, List, ℕ, subst}
use Rattle.session_undo.specs.Replies.{Tells}
use Rattle.reply_texts.specs.Replies.{text_of}
use Rattle.reply_texts.proofs.reply.text_for.Goals as goal

pub returns : goal.returns
returns g c =
    subst (λ (l : List ℕ). Tells (λ told. c.push_told.new.out.items ≡ l ++ text_of c.args.session.now.scene told) c.args.reply.now) c.new-text.ensures.items c.in_ok-push_told.ensures
