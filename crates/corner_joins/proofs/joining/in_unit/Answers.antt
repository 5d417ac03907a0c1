use Rattle.std.proofs.Common.{w64, to_z, SFits, ap}
use Rattle.std.proofs.lemmas.Int.{to_z-of_z}
use Rattle.corner_joins.proofs.Costs.CostRows.{same_unit}
use Rattle.corner_joins.proofs.joining.in_unit.Goals as goal

pub returns-then-times-eq1-clause-ok : goal.returns-then-times-eq1-clause-ok
returns-then-times-eq1-clause-ok c =
    let t : SFits w64 c.args.times = c.ranges.times in
    same_unit c.args.row c.args.l c.args.times (simp to_z-of_z at (ap (to_z w64) c.if-times-eq1.true))
