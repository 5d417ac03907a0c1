use Rattle.scenes.proofs.Views.ByNumber.{all-held}
use Rattle.scenes.proofs.scene.Scene.values.Goals as goal

pub values_of-requires : goal.values_of-requires
values_of-requires g c = all-held c.self.inside.tree.views c.self.inside.engine.problem.stays c.self.invariant.0.scene.counted.stays

pub returns : goal.returns
returns g c = rw (← c.self.view_is) c.values_of.ensures
