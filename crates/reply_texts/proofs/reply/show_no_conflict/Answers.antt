use Rattle.std.proofs.Common.{◌≡◌, ◌++◌, codes}
use Rattle.std.proofs.lemmas.Result.{IfOk-weaker}
use Rattle.reply_texts.specs.Replies.{line_of, no_conflict_text}
use Rattle.reply_texts.proofs.Texts.{two_appended}
use Rattle.reply_texts.proofs.reply.show_no_conflict.Goals as goal

pub returns : goal.returns
returns c =
    IfOk-weaker c.push_ok.result (λ u. c.push_ok.new.out.items ≡ c.extend_from_slice.new.self.items ++ line_of (codes "ok"))
    (λ u. c.push_ok.new.out.items ≡ c.args.out.now.items ++ no_conflict_text)
    (λ u appended. two_appended c.args.out.now.items c.extend_from_slice.new.self.items c.push_ok.new.out.items (line_of (codes "no conflict")) (line_of (codes "ok")) c.in_ok-extend_from_slice.ensures.items appended)
    c.push_ok.ensures.text
