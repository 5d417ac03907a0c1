use Rattle.std.proofs.Common.{◌≡◌, ◌∙◌, ◌++◌, ◌+◌, List, ℕ, ap, arith, length, sym, true≢false}
use Rattle.session_undo.specs.Replies.{Reply, Tells}
use Rattle.reply_texts.specs.Replies.{text_of}
use Rattle.reply_texts.proofs.Told.{tells_as}
use Rattle.scene_host.specs.Marks.{marked}
use Rattle.layout_cli.proofs.Behind.{change_text, ok_length, on_ok_as}
use Rattle.layout_cli.proofs.responder.put_behind.Goals as goal

pub returns-in_err-reply_text-clause-room : goal.returns-in_err-reply_text-clause-room
returns-in_err-reply_text-clause-room c =
    λ change enough.
    let empty = ap length c.requires.empty in
    absurd (true≢false (sym (c.in_err-reply_text.ensures.room change (omega (arith, empty, c.requires.room)))))

pub returns-clause-put : goal.returns-clause-put
returns-clause-put c =
    on_ok_as c.push_marked.result (λ put.
    tells_as (λ (told : Reply). c.reply_text.new.out.items ≡ c.args.text.items ++ text_of c.args.session.now.scene told)
    (λ (told : Reply). c.push_marked.new.out.items ≡ c.args.out.now.items ++ marked c.args.mark.now (text_of c.args.session.now.scene told))
    c.args.reply.now
    (λ told text. put ∙ ap (λ (t : List ℕ). c.args.out.now.items ++ marked c.args.mark.now t) (c.deref.ensures.value ∙ (text ∙ ap (λ (front : List ℕ). front ++ text_of c.args.session.now.scene told) c.requires.empty)))
    c.in_ok-reply_text.ensures.text) c.push_marked.ensures.marked

pub returns-clause-room : goal.returns-clause-room
returns-clause-room c =
    λ change enough.
    let told : Tells (λ (told : Reply). c.reply_text.new.out.items ≡ text_of c.args.session.now.scene told) c.args.reply.now =
    tells_as (λ (told : Reply). c.reply_text.new.out.items ≡ c.args.text.items ++ text_of c.args.session.now.scene told)
    (λ (told : Reply). c.reply_text.new.out.items ≡ text_of c.args.session.now.scene told)
    c.args.reply.now
    (λ told text. text ∙ ap (λ (front : List ℕ). front ++ text_of c.args.session.now.scene told) c.requires.empty)
    c.in_ok-reply_text.ensures.text in
    let text = change_text c.args.session.now.scene c.args.reply.now c.reply_text.new.out.items change told in
    let count : length (marked c.args.mark.now c.deref.result.now) ≡ length c.args.mark.now + 3 =
    ap (λ (t : List ℕ). length (marked c.args.mark.now t)) (c.deref.ensures.value ∙ text) ∙ ok_length c.args.mark.now in
    c.push_marked.ensures.room (omega (arith, count, enough))
