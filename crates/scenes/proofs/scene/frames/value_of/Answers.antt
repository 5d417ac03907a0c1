use Rattle.scenes.proofs.scene.frames.value_of.Goals as goal
use Rattle.layout_solver.proofs.ApartValues.{value_is}

pub returns : goal.returns
returns g c = value_is c.args.engine.now.values c.args.attr c.value_at.result c.show_layout.ensures.apart c.value_at.ensures
