use Rattle.corner_laws.proofs.RunSteps.DualRuns.{dual_order_is_free}
use Rattle.corner_laws.proofs.runs.dual_order_is_free.Goals as goal

pub returns : goal.returns
returns c = dual_order_is_free
