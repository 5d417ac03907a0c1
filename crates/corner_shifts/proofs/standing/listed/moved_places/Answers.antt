use Rattle.std.proofs.Common.{rules, ◌≡◌, ◌≤◌, length, true}
use Rattle.std.proofs.lemmas.Option.{get_or_from_slice_get}
use Rattle.corner_table.specs.Tables.{lists_of}
use Rattle.corner_shifts.proofs.Stays.ListedStays.{all_placed, more_placed}
use Rattle.corner_shifts.proofs.standing.listed.moved_places.Goals as goal

pub loop-k-preserved : goal.loop-k-preserved
loop-k-preserved c =
    let found : c.in_ok-add_place.field-0 ≡ true = search rules in
    record {
      within = c.add_place.ensures.within c.loop-k.invariant.within;
      has = more_placed (lists_of c.args.table.now) c.args.lines.now c.loop-k.k c.slot.result c.loop-k.places.items
          c.add_place.new.places.items c.loop-k.invariant.has
          (get_or_from_slice_get c.args.lines.now c.loop-k.k c.slot.result 0 c.slot.ensures)
          c.add_place.ensures.keeps (c.in_ok-add_place.ensures.has found);
    }

pub returns-clause-has : goal.returns-clause-has
returns-clause-has c =
    let most : length c.args.lines.now ≤ c.loop-k.k = search rules in
    all_placed (lists_of c.args.table.now) c.args.lines.now c.loop-k.k c.loop-k.places.items c.requires.lines most c.loop-k.invariant.has
