use Rattle.std.proofs.Common.{◌≡◌, ◌∙◌, ◌++◌, List, ℕ, ap}
use Rattle.reply_texts.specs.Replies.{text_of}
use Rattle.reply_texts.proofs.Told.{tells_as}
use Rattle.reply_texts.proofs.reply.append_text.Goals as goal

pub returns-clause-text : goal.returns-clause-text
returns-clause-text g c =
    tells_as (λ told. c.in_ok-text.text.items ≡ text_of c.args.session.now.scene told)
    (λ told. c.extend_from_slice.new.self.items ≡ c.args.out.now.items ++ text_of c.args.session.now.scene told) c.args.reply.now
    (λ told is. c.in_ok-extend_from_slice.ensures.items ∙ ap (λ (t : List ℕ). c.args.out.now.items ++ t) (c.deref.ensures.value ∙ is)) c.in_ok-text.ensures
