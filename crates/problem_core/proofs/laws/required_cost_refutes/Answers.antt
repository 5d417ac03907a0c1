use Rattle.problem_core.proofs.Corners.Conflicts.{end-IsRefutation}
use Rattle.problem_core.proofs.laws.required_cost_refutes.Goals as goal

pub returns : goal.returns
returns c = end-IsRefutation
