use Rattle.std.proofs.Common.{◌≡◌}
use Rattle.corner_packing.specs.Moving.{AreMoved}
use Rattle.corner_table.specs.Tables.{no_standing}
use Rattle.corner_packing.proofs.moving.move_standings.Given as goal

abbrev pub invariant-loop-w : goal.invariant-loop-w
invariant-loop-w l = record {
  moved : AreMoved l.places.of.items (λ w x. x) no_standing l.w l.fn.standings.items l.standings.items;
  before : l.standings.before ≡ l.fn.standings.before;
}
