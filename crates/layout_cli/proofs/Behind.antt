-- Replies with a mark in front of each line.
use Rattle.std.proofs.Common.{◌≡◌, ◌∙◌, ℕ, ◌+◌, List, [], ◌∷◌, ◌++◌, length, codes, ap, append_assoc, length-append}
use Rattle.std.specs.Prelude.{OnOk}
use Rattle.std.specs.declared.result.Result.{Result}
use Rattle.std.specs.declared.result.Result.TheVariants.{Ok, Err}
use Rattle.scenes.specs.Scene.{Scene}
use Rattle.session_undo.specs.Replies.{IsChange, Tells}
use Rattle.session_undo.specs.declared.reply.Refusal.{Refusal}
use Rattle.session_undo.specs.declared.reply.Reply as answer
use Rattle.session_undo.specs.declared.reply.Reply.TheVariants as good
use Rattle.reply_texts.specs.Replies.{line_of, text_of}
use Rattle.scene_host.specs.Marks.{marked}

-- the reply to a change has one line
pub ok_behind : (mark : List ℕ) → marked mark (line_of (codes "ok")) ≡ mark ++ line_of (codes "ok")
ok_behind mark = append_assoc mark (111 ∷ []) (107 ∷ 10 ∷ [])

pub ok_length : (mark : List ℕ) → length (marked mark (line_of (codes "ok"))) ≡ length mark + 3
ok_length mark = ap length (ok_behind mark) ∙ length-append mark (line_of (codes "ok"))

-- the reply to a change is `ok`
pub change_text : (scene : Scene) (r : Result answer.Reply Refusal) (items : List ℕ) → IsChange r → Tells (λ told. items ≡ text_of scene told) r → items ≡ line_of (codes "ok")
change_text scene (Ok good.Silent) items change tells = absurd change
change_text scene (Ok good.Done) items change tells = tells
change_text scene (Ok good.Frames) items change tells = absurd change
change_text scene (Ok good.Rows) items change tells = absurd change
change_text scene (Ok (good.Certificate levels)) items change tells = absurd change
change_text scene (Ok (good.Diagnosed d)) items change tells = absurd change
change_text scene (Ok (good.Why f)) items change tells = absurd change
change_text scene (Ok (good.Swept s)) items change tells = absurd change
change_text scene (Err stop) items change tells = absurd change

pub on_ok_as : {T E P Q : Type 0} (r : Result T E) → (P → Q) → OnOk r P → OnOk r Q
on_ok_as (Ok x) to h = to h
on_ok_as (Err e) to h = tt
