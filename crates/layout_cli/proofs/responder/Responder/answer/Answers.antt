use Rattle.std.proofs.Common.{◌≡◌, ◌∙◌, ◌++◌, Bool, List, ℕ, ap, is_ok, subst, sym, true≢false}
use Rattle.std.specs.Prelude.{not}
use Rattle.session_undo.specs.Replies.{IsChange, Tells}
use Rattle.reply_texts.specs.Replies.{text_of}
use Rattle.layout_cli.specs.Machine.{Talking, Talks}
use Rattle.layout_cli.proofs.Answered.{Hears, at_ok, not_not, talked}
use Rattle.layout_cli.proofs.Told.{unchanged}
use Rattle.layout_cli.proofs.responder.Responder.answer.Goals as goal

pub returns-in-Err-clause-same : goal.returns-in-Err-clause-same
returns-in-Err-clause-same c =
    let never : IsChange c.step-reply.result → ⊥ = λ change. true≢false (sym (c.reply_text.ensures.room change c.in_ok-reserve.ensures.ok) ∙ ap is_ok c.in-Err.is) in
    unchanged c.args.self.now c.step-reply.new.self c.args.line.now c.step-reply.result c.step-reply.ensures.begun c.step-reply.ensures.accepted c.step-reply.ensures.same never

pub returns-in-Ok-clause-told : goal.returns-in-Ok-clause-told
returns-in-Ok-clause-told c =
    let mid : Talking = c.step-reply.new.self in
    let last : Talking = c.begin.new.self in
    let text : Tells (λ told. c.reply_text.new.out.items ≡ c.args.out.now.items ++ text_of mid.state.scene told) c.step-reply.result =
    subst (λ (t : Talking). Tells (λ told. c.reply_text.new.out.items ≡ c.args.out.now.items ++ text_of t.state.scene told) c.step-reply.result) c.self.view_is
    (subst (λ (front : List ℕ). Tells (λ told. c.reply_text.new.out.items ≡ front ++ text_of c.self.inside.session.scene told) c.step-reply.result) c.in_ok-reserve.ensures.items (at_ok c.reply_text.result c.in-Ok.is c.reply_text.ensures.text)) in
    let hears : Hears c.step-reply.result mid last = record { state = c.begin.ensures.state; silent = c.begin.ensures.silent; told = c.begin.ensures.told } in
    let told = talked c.args.self.now mid last c.args.line.now (λ (xs : List ℕ). c.reply_text.new.out.items ≡ c.args.out.now.items ++ xs) c.step-reply.result
    c.step-reply.ensures.begun c.step-reply.ensures.accepted c.step-reply.ensures.refused c.step-reply.ensures.same text hears in
    let good : is_ok c.step-reply.result ≡ not (not c.begin.result) = sym c.begin.ensures.good ∙ sym (not_not c.begin.result) in
    (told.0, subst (λ (b : Bool). Talks c.args.self.now c.args.line.now told.0 b last) good told.1, told.2)
