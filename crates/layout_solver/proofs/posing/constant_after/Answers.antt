use Rattle.layout_solver.proofs.Posed.ShiftedRows.{next-either}
use Rattle.layout_solver.proofs.posing.constant_after.Goals as goal

pub loop-change-preserved : goal.loop-change-preserved
loop-change-preserved c =
    next-either c.args.to.now c.loop-change.change-index c.change-item.result c.args.row.now c.loop-change.constant c.loop-change-test.true c.change-item.is c.loop-change.invariant
    c.constant_past-constant.result c.constant_past-constant.ensures.own c.constant_past-constant.ensures.other
