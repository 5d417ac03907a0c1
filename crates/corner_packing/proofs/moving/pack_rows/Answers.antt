use Rattle.std.proofs.Common.{◌≡◌, take, arith}
use Rattle.std.proofs.lemmas.Result.{on_ok_weaker}
use Rattle.corner_packing.proofs.PackingFacts.{all_cleared, all_packed, cleared_below}
use Rattle.corner_packing.proofs.moving.pack_rows.Goals as goal

pub truncate-requires : goal.truncate-requires
truncate-requires c =
    let moved = c.in_ok-move_rows.ensures.moved in
    let cleared = c.in_ok-clear_rows.ensures.cleared in
    let few = c.requires.packing.few in
    let long = moved.length_is in
    let longer = cleared.length_is in
    let same = c.requires.length in
    record {
      within = omega (arith, few, long, longer, same);
      empty = λ w le. all_cleared c.args.places.now.count c.move_rows.new.matrix.rows c.clear_rows.new.matrix.rows w cleared le;
      below = cleared_below c.args.places.now.of.items c.args.places.now.count c.args.matrix.now.rows c.move_rows.new.matrix.rows c.clear_rows.new.matrix.rows
          c.requires.packing c.requires.length c.requires.placed moved cleared;
    }

pub returns-clause-moved : goal.returns-clause-moved
returns-clause-moved c =
    on_ok_weaker c.truncate.result
    (λ (is : c.truncate.new.self.rows ≡ take c.args.places.now.count c.clear_rows.new.matrix.rows).
    all_packed c.args.places.now.of.items c.args.places.now.count c.args.matrix.now.rows c.move_rows.new.matrix.rows c.clear_rows.new.matrix.rows c.truncate.new.self.rows
    c.requires.packing c.requires.length c.in_ok-move_rows.ensures.moved c.in_ok-clear_rows.ensures.cleared is)
    c.truncate.ensures.ok
