use Rattle.std.proofs.Common.{◌≡◌, []}
use Rattle.row_core.specs.Renames.{renamed}
use Rattle.corner_packing.specs.Moving.{AreMoved}
use Rattle.corner_packing.proofs.moving.move_rows.Given as goal

abbrev pub invariant-loop-w : goal.invariant-loop-w
invariant-loop-w l = record {
  moved : AreMoved l.places.of.items (λ w. renamed l.places.of.items) [] l.w l.fn.matrix.rows l.matrix.rows;
  before : l.matrix.before ≡ l.fn.matrix.before;
}
