use Rattle.layout_solver.proofs.UniqueBest.{best_unique}
use Rattle.layout_cli.proofs.laws.best_values_are_unique.Goals as goal

pub returns : goal.returns
returns c = best_unique
