use Rattle.corner_laws.proofs.RunSteps.ColumnSigns.{none_negative_by_reduced}
use Rattle.corner_laws.proofs.runs.none_negative_by_reduced.Goals as goal

pub returns : goal.returns
returns c = none_negative_by_reduced
