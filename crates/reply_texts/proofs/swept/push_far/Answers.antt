use Rattle.std.proofs.Common.{◌≡◌, ◌++◌, ◌∷◌, [], codes}
use Rattle.std.proofs.lemmas.Result.{IfOk-weaker}
use Rattle.claim_writing.specs.PathTexts.{path_text}
use Rattle.reply_texts.specs.Swept.{far_line, far_text, width_line}
use Rattle.reply_texts.proofs.Texts.{four_appended}
use Rattle.reply_texts.proofs.swept.push_far.Goals as goal

pub returns : goal.returns
returns c =
    IfOk-weaker c.push_what.result (λ u. c.push_what.new.out.items ≡ c.path_text.new.out.items ++ far_line c.args.what.now)
    (λ u. c.push_what.new.out.items ≡ c.args.out.now.items ++ far_text c.args.width c.args.path.now c.args.what.now)
    (λ u appended. four_appended c.args.out.now.items c.extend_from_slice.new.self.items c.push_width.new.out.items c.path_text.new.out.items c.push_what.new.out.items
    (codes "refused 7 overflow" ++ 10 ∷ []) (width_line c.args.width) (path_text c.args.path.now) (far_line c.args.what.now)
    c.in_ok-extend_from_slice.ensures.items c.in_ok-push_width.ensures c.in_ok-path_text.ensures.written appended)
    c.push_what.ensures
