use Rattle.std.proofs.Common.{rules, ◌≡◌, [], length, refl, arith, subst, sym}
use Rattle.row_core.specs.Renames.{renamed}
use Rattle.corner_packing.specs.Moving.{AreMoved, HasPlaces}
use Rattle.corner_packing.proofs.MovingFacts.{is_placed_or, one_moved, unmoved}
use Rattle.corner_packing.proofs.moving.move_rows.Goals as goal

pub loop-w-init : goal.loop-w-init
loop-w-init c = record {
  moved = unmoved c.args.places.now.of.items (λ w. renamed c.args.places.now.of.items) [] c.args.matrix.now.rows;
  before = refl;
}

pub move_row-requires-clause-placed : goal.move_row-requires-clause-placed
move_row-requires-clause-placed c =
    subst (HasPlaces c.args.places.now.of.items) (sym (c.loop-w.invariant.moved.later c.loop-w.w (omega arith))) (c.requires.placed c.loop-w.w)

pub loop-w-preserved : goal.loop-w-preserved
loop-w-preserved c = record {
  moved = one_moved c.args.places.now.of.items c.args.places.now.count (λ w. renamed c.args.places.now.of.items) [] c.loop-w.w c.args.matrix.now.rows c.loop-w.matrix.rows c.move_row.new.matrix.rows
      c.requires.packing (search rules) c.loop-w.invariant.moved c.in_ok-move_row.ensures.moved (is_placed_or c.args.places.now.of.items c.loop-w.w);
  before = search rules;
}

pub returns-clause-moved : goal.returns-clause-moved
returns-clause-moved c =
    let end : c.loop-w.w ≡ length c.args.matrix.now.rows = grind (arith, c.loop-w-test.false, c.loop-w.auto.w-end) in
    subst (λ n. AreMoved c.args.places.now.of.items (λ w. renamed c.args.places.now.of.items) [] n c.args.matrix.now.rows c.loop-w.matrix.rows) end c.loop-w.invariant.moved
