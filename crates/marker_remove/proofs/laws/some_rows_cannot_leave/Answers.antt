use Rattle.marker_remove.proofs.Instances.{some_rows_cannot_leave}
use Rattle.marker_remove.proofs.laws.some_rows_cannot_leave.Goals as goal

pub returns : goal.returns
returns c = some_rows_cannot_leave
