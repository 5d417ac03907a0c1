use Rattle.std.proofs.Common.{refl}
use Rattle.session_undo.specs.Adding.{NoEnd}
use Rattle.session_undo.proofs.Commands.TreeChains.{crowded-tree, free-tree}
use Rattle.session_undo.proofs.session.Session.new_tree.Goals as goal

pub returns-then-is_crowded-clause-refused : goal.returns-then-is_crowded-clause-refused
returns-then-is_crowded-clause-refused g c =
    crowded-tree c.args.self.now c.args.text.now c.args.start NoEnd c.in-Ok.new.tree c.in-Ok.new.count c.in-Ok.ensures.made (c.if-is_crowded.ensures.yes refl)

pub returns-else-is_crowded-clause-made : goal.returns-else-is_crowded-clause-made
returns-else-is_crowded-clause-made g c =
    free-tree c.args.self.now c.args.text.now c.in-Ok.new.tree c.in-Ok.new.first_view.0 c.in-Ok.new.count c.in-Ok.ensures.made (c.if-is_crowded.ensures.no refl) c.in-Ok.ensures.first

pub returns-in-Err-clause-refused : goal.returns-in-Err-clause-refused
returns-in-Err-clause-refused g c = c.tree_refusal.ensures c.args.self.now c.args.text.now c.in-Err.ensures.stop
