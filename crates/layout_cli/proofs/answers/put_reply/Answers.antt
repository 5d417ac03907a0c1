use Rattle.std.proofs.Common.{◌≡◌, ◌∙◌, ◌++◌, List, ℕ, ap, subst}
use Rattle.std.specs.Io.KnownBytes.{Appends}
use Rattle.edge_io.specs.Outside.{HasFront}
use Rattle.reply_texts.specs.Replies.{text_of}
use Rattle.reply_texts.proofs.Told.{tells_as}
use Rattle.layout_cli.proofs.answers.put_reply.Goals as goal

pub returns-in_err-put_all-clause-front : goal.returns-in_err-put_all-clause-front
returns-in_err-put_all-clause-front g c failed =
    tells_as (λ told. c.reply_text.new.out.items ≡ c.args.text.now.items ++ text_of c.args.session.now.scene told)
    (λ told. HasFront (g.K.Sink.held c.args.sink.now) (g.K.Sink.held c.put_all.new.sink) (text_of c.args.session.now.scene told)) c.args.reply.now
    (λ told is. subst (λ (text : List ℕ). HasFront (g.K.Sink.held c.args.sink.now) (g.K.Sink.held c.put_all.new.sink) text)
    (c.deref.ensures.value ∙ is ∙ ap (λ (front : List ℕ). front ++ text_of c.args.session.now.scene told) c.requires.empty) c.in_err-put_all.ensures.err)
    c.in_ok-reply_text.ensures.text

pub returns-clause-put : goal.returns-clause-put
returns-clause-put g c =
    tells_as (λ told. c.reply_text.new.out.items ≡ c.args.text.now.items ++ text_of c.args.session.now.scene told)
    (λ told. Appends (g.K.Sink.held c.args.sink.now) (g.K.Sink.held c.put_all.new.sink) (text_of c.args.session.now.scene told)) c.args.reply.now
    (λ told is. subst (λ (text : List ℕ). Appends (g.K.Sink.held c.args.sink.now) (g.K.Sink.held c.put_all.new.sink) text)
    (c.deref.ensures.value ∙ is ∙ ap (λ (front : List ℕ). front ++ text_of c.args.session.now.scene told) c.requires.empty) c.in_ok-put_all.ensures.ok)
    c.in_ok-reply_text.ensures.text
