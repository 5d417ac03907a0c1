use Rattle.layout_solver.proofs.ApartValues.{value_is}
use Rattle.conflict_core.proofs.trials.value_of.Goals as goal

pub returns : goal.returns
returns g c = value_is c.args.e.now.values c.args.attr c.value_at.result c.show_layout.ensures.apart c.value_at.ensures
