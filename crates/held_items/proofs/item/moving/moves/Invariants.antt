use Rattle.std.proofs.Common.{take}
use Rattle.layout_solver.specs.Shifts.{AreKept}
use Rattle.held_items.specs.Moving.{AreMoves}
use Rattle.held_items.proofs.item.moving.moves.Given as goal

abbrev pub invariant-loop-constant : goal.invariant-loop-constant
invariant-loop-constant l = record {
  moves : AreMoves l.rows (take l.constant-index l.constants) l.to.items;
  kept : AreKept l.to.items;
}
