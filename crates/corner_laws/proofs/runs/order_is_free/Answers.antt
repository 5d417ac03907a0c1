use Rattle.corner_laws.proofs.RunSteps.RunPaths.{order_is_free}
use Rattle.corner_laws.proofs.runs.order_is_free.Goals as goal

pub returns : goal.returns
returns c = order_is_free
