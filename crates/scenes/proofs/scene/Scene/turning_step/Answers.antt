use Rattle.held_items.specs.Kept.{items_of}
use Rattle.scenes.proofs.DraftSteps.{turning-step}
use Rattle.scenes.proofs.scene.Scene.turning_step.Goals as goal

pub returns : goal.returns
returns g c = rw (c.plain_step-step.ensures, ← c.self.view_is) (turning-step c.self.inside.tree c.self.inside.metrics (items_of c.self.inside.items.items) c.self.inside.setting c.self.inside.engine c.self.invariant.0.scene c.show_layout.ensures.layout c.args.to)
