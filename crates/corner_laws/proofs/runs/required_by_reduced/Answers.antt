use Rattle.corner_laws.proofs.RunSteps.ColumnSigns.{required_by_reduced}
use Rattle.corner_laws.proofs.runs.required_by_reduced.Goals as goal

pub returns : goal.returns
returns c = required_by_reduced
