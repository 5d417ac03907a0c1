use Rattle.std.proofs.Common.{◌∙◌}
use Rattle.held_items.proofs.Marks.{refused-items}
use Rattle.held_items.proofs.Marks.{marked-all}
use Rattle.held_items.proofs.item.placing.push_item.Goals as goal

pub returns-in-Ok-clause-before : goal.returns-in-Ok-clause-before
returns-in-Ok-clause-before c =
    c.in-Ok.ensures.before ∙ marked-all c.args.items.now.before c.mark.new.self.before c.args.items.now.items c.requires c.mark.ensures.before

pub returns-in-Err-clause-same : goal.returns-in-Err-clause-same
returns-in-Err-clause-same c =
    refused-items c.args.items.now c.back.new.self c.push.new.self.before
    (c.in-Err.ensures.before ∙ marked-all c.args.items.now.before c.mark.new.self.before c.args.items.now.items c.requires c.mark.ensures.before)
    c.back.ensures.version
