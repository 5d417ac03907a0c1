use Rattle.std.proofs.Common.{◌≡◌, ◌++◌, codes}
use Rattle.std.proofs.lemmas.Result.{IfOk-weaker}
use Rattle.claim_writing.specs.PathTexts.{unfit_path_text}
use Rattle.session_undo.specs.Replies.{place_of}
use Rattle.reply_texts.specs.Replies.{line_of, overflow_text, place_text}
use Rattle.reply_texts.proofs.Texts.{three_appended}
use Rattle.reply_texts.proofs.refusals.push_overflow.Goals as goal

pub returns : goal.returns
returns c =
    IfOk-weaker c.unfit_text.result (λ u. c.unfit_text.new.out.items ≡ c.push_place.new.out.items ++ unfit_path_text c.args.at.now)
    (λ u. c.unfit_text.new.out.items ≡ c.args.out.now.items ++ overflow_text c.args.tree.now.views (place_of c.args.place.now) c.args.at.now.path c.args.at.now.quantity)
    (λ u appended. three_appended c.args.out.now.items c.extend_from_slice.new.self.items c.push_place.new.out.items c.unfit_text.new.out.items
    (line_of (codes "refused 7 overflow")) (place_text c.args.tree.now.views (place_of c.args.place.now)) (unfit_path_text c.args.at.now) c.in_ok-extend_from_slice.ensures.items c.in_ok-push_place.ensures appended)
    c.unfit_text.ensures.written
