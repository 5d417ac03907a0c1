use Rattle.corner_laws.proofs.RunSteps.ColumnSigns.{negative_by_reduced}
use Rattle.corner_laws.proofs.runs.negative_by_reduced.Goals as goal

pub returns : goal.returns
returns c = negative_by_reduced
