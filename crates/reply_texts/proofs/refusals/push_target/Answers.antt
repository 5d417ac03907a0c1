use Rattle.std.proofs.Common.{codes}
use Rattle.reply_texts.specs.Found.{probe_line}
use Rattle.reply_texts.specs.Replies.{line_of}
use Rattle.reply_texts.proofs.Texts.{three_appended}
use Rattle.reply_texts.proofs.refusals.push_target.Goals as goal

pub returns : goal.returns
returns c =
    three_appended c.args.out.now.items c.extend_from_slice.new.self.items c.push_probe.new.out.items c.extend_from_slice-2.new.self.items
    (line_of (codes "refused 7 overflow")) (probe_line c.args.tree.now.views c.args.attr c.args.up) (line_of (codes "unfit target"))
    c.in_ok-extend_from_slice.ensures.items c.in_ok-push_probe.ensures c.in_ok-extend_from_slice-2.ensures.items
