use Rattle.marker_remove.proofs.Beginnings.{some_removals_begin}
use Rattle.marker_remove.proofs.laws.some_removals_begin.Goals as goal

pub returns : goal.returns
returns c = some_removals_begin
