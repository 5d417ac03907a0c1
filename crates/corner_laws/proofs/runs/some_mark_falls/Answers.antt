use Rattle.corner_laws.proofs.RunSteps.ColumnSigns.{some_mark_falls}
use Rattle.corner_laws.proofs.runs.some_mark_falls.Goals as goal

pub returns : goal.returns
returns c = some_mark_falls
