use Rattle.std.proofs.Common.{◌≡◌}
use Rattle.corner_packing.specs.Moving.{AreCleared}
use Rattle.corner_packing.proofs.moving.clear_rows.Given as goal

abbrev pub invariant-loop-w : goal.invariant-loop-w
invariant-loop-w l = record {
  cleared : AreCleared l.count l.w l.fn.matrix.rows l.matrix.rows;
  before : l.matrix.before ≡ l.fn.matrix.before;
}
