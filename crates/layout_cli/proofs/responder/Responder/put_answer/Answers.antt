use Rattle.std.proofs.Common.{◌∙◌, Bool, Err, List, ℕ, ap, is_ok, refl, subst, sym}
use Rattle.std.specs.Io.KnownBytes.{Appends}
use Rattle.edge_io.specs.Outside.{HasFront}
use Rattle.edge_io.specs.declared.traits.Failed.{Failed}
use Rattle.frac_core.specs.declared.memory.Stop.{Stop}
use Rattle.line_by_line.proofs.Stops.{passed_on}
use Rattle.session_undo.specs.Replies.{Tells}
use Rattle.reply_texts.specs.Replies.{text_of}
use Rattle.layout_cli.specs.Machine.{Talking, Talks}
use Rattle.layout_cli.proofs.Answered.{Hears, at_ok, kept_in_mind, mind_hears, talked}
use Rattle.layout_cli.proofs.Told.{unchanged}
use Rattle.layout_cli.proofs.responder.Responder.put_answer.Goals as goal

pub returns-in-Err-clause-front : goal.returns-in-Err-clause-front
returns-in-Err-clause-front g c =
    λ is.
    let mid : Talking = c.step-reply.new.self in
    let front : Tells (λ told. HasFront (g.K.Sink.held c.args.sink.now) (g.K.Sink.held c.put_reply.new.sink) (text_of mid.state.scene told)) c.step-reply.result =
    subst (λ (t : Talking). Tells (λ told. HasFront (g.K.Sink.held c.args.sink.now) (g.K.Sink.held c.put_reply.new.sink) (text_of t.state.scene told)) c.step-reply.result) c.self.view_is
    (c.put_reply.ensures.front (c.in-Err.is ∙ ap (λ (e : Stop Failed). Err e) (passed_on (Err c.in-Err.stop) c.in-Err.stop c.in-Err.stop _ refl refl is))) in
    let told = talked c.args.self.now mid (kept_in_mind c.step-reply.result mid) c.args.line.now (λ (text : List ℕ). HasFront (g.K.Sink.held c.args.sink.now) (g.K.Sink.held c.put_reply.new.sink) text) c.step-reply.result
    c.step-reply.ensures.begun c.step-reply.ensures.accepted c.step-reply.ensures.refused c.step-reply.ensures.same front (mind_hears c.step-reply.result mid) in
    (told.0, is_ok c.step-reply.result, kept_in_mind c.step-reply.result mid, told.1, told.2)

pub returns-in-Err-clause-same : goal.returns-in-Err-clause-same
returns-in-Err-clause-same g c =
    λ is.
    unchanged c.args.self.now c.step-reply.new.self c.args.line.now c.step-reply.result c.step-reply.ensures.begun c.step-reply.ensures.accepted c.step-reply.ensures.same
    (c.put_reply.ensures.unchanged (c.in-Err.is ∙ ap (λ (e : Stop Failed). Err e) (passed_on (Err c.in-Err.stop) c.in-Err.stop c.in-Err.stop _ refl refl is)))

pub returns-in-Ok-clause-told : goal.returns-in-Ok-clause-told
returns-in-Ok-clause-told g c =
    let mid : Talking = c.step-reply.new.self in
    let last : Talking = c.begin.new.self in
    let put : Tells (λ told. Appends (g.K.Sink.held c.args.sink.now) (g.K.Sink.held c.put_reply.new.sink) (text_of mid.state.scene told)) c.step-reply.result =
    subst (λ (t : Talking). Tells (λ told. Appends (g.K.Sink.held c.args.sink.now) (g.K.Sink.held c.put_reply.new.sink) (text_of t.state.scene told)) c.step-reply.result) c.self.view_is
    (at_ok c.put_reply.result c.in-Ok.is c.put_reply.ensures.put) in
    let hears : Hears c.step-reply.result mid last = record { state = c.begin.ensures.state; silent = c.begin.ensures.silent; told = c.begin.ensures.told } in
    let told = talked c.args.self.now mid last c.args.line.now (λ (text : List ℕ). Appends (g.K.Sink.held c.args.sink.now) (g.K.Sink.held c.put_reply.new.sink) text) c.step-reply.result
    c.step-reply.ensures.begun c.step-reply.ensures.accepted c.step-reply.ensures.refused c.step-reply.ensures.same put hears in
    (told.0, subst (λ (b : Bool). Talks c.args.self.now c.args.line.now told.0 b last) (sym c.begin.ensures.good) told.1, told.2)
