use Rattle.std.proofs.Common.{rules, ◌≡◌, ◌≤◌, length, refl, take, arith}
use Rattle.std.proofs.lemmas.Result.{on_ok_weaker}
use Rattle.corner_table.specs.Tables.{no_standing}
use Rattle.corner_packing.proofs.MovingFacts.{all_moved, is_placed_or, one_moved, unmoved}
use Rattle.corner_packing.proofs.moving.move_standings.Goals as goal

pub loop-w-init : goal.loop-w-init
loop-w-init c = record {
  moved = unmoved c.args.places.now.of.items (λ w x. x) no_standing c.args.standings.now.items;
  before = refl;
}

pub loop-w-preserved : goal.loop-w-preserved
loop-w-preserved c = record {
  moved = one_moved c.args.places.now.of.items c.args.places.now.count (λ w x. x) no_standing c.loop-w.w c.args.standings.now.items c.loop-w.standings.items c.move_standing.new.standings.items
      c.requires.packing (search rules) c.loop-w.invariant.moved c.in_ok-move_standing.ensures.moved (is_placed_or c.args.places.now.of.items c.loop-w.w);
  before = search rules;
}

pub truncate-requires : goal.truncate-requires
truncate-requires c =
    let few = c.requires.packing.few in
    let long = c.loop-w.invariant.moved.length_is in
    let same = c.requires.length in
    omega (arith, few, long, same)

pub returns-clause-moved : goal.returns-clause-moved
returns-clause-moved c =
    let end : length c.args.standings.now.items ≤ c.loop-w.w = search rules in
    on_ok_weaker c.truncate.result
    (λ (is : c.truncate.new.self.items ≡ take c.args.places.now.count c.loop-w.standings.items).
    all_moved c.args.places.now.of.items c.args.places.now.count (λ w x. x) no_standing c.loop-w.w c.args.standings.now.items c.loop-w.standings.items c.truncate.new.self.items
    c.requires.packing c.requires.length end c.loop-w.invariant.moved is)
    c.truncate.ensures.ok
