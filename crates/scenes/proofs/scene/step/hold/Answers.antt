use Rattle.held_items.proofs.Marks.{marked-all}
use Rattle.scenes.proofs.scene.step.hold.Goals as goal

pub returns-in-Same-clause-before : goal.returns-in-Same-clause-before
returns-in-Same-clause-before c = marked-all c.args.items.now.before c.mark.new.self.before c.args.items.now.items c.requires.few c.mark.ensures.before
