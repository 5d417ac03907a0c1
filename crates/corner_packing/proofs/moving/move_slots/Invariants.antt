use Rattle.std.proofs.Common.{◌≡◌}
use Rattle.corner_packing.specs.Packing.{packed_slot}
use Rattle.corner_packing.specs.Moving.{AreMoved}
use Rattle.corner_table.specs.Tables.{no_slot}
use Rattle.corner_packing.proofs.moving.move_slots.Given as goal

abbrev pub invariant-loop-w : goal.invariant-loop-w
invariant-loop-w l = record {
  moved : AreMoved l.places.of.items (packed_slot l.places.of.items) no_slot l.w l.fn.slots.items l.slots.items;
  before : l.slots.before ≡ l.fn.slots.before;
}
