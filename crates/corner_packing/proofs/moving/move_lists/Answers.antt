use Rattle.std.proofs.Common.{◌≡◌, ◌<◌, ◌∙◌, List, ℕ, slice_index_or, sym, refl, subst, arith}
use Rattle.std.proofs.lemmas.Result.{on_ok_weaker}
use Rattle.version_lists.specs.Numbers.{AreRenumbered}
use Rattle.corner_table.specs.declared.table.TheConstants.{LEVELS}
use Rattle.corner_table.specs.Tables.{lists_of}
use Rattle.corner_packing.proofs.PackingFacts.{are_packed, columns_placed, rising_places}
use Rattle.corner_packing.proofs.moving.move_lists.Goals as goal

pub move_slots-requires : goal.move_slots-requires
move_slots-requires c = record {
  packing = rising_places (lists_of c.args.table.now) c.args.places.now.of.items c.args.places.now.count c.requires.kept c.requires.places;
  length = sym c.requires.places.length_is;
}

pub move_standings-requires : goal.move_standings-requires
move_standings-requires c = record {
  packing = rising_places (lists_of c.args.table.now) c.args.places.now.of.items c.args.places.now.count c.requires.kept c.requires.places;
  length = c.requires.kept.slots.standings ∙ sym c.requires.places.length_is;
}

pub pack_rows-requires : goal.pack_rows-requires
pack_rows-requires c = record {
  packing = rising_places (lists_of c.args.table.now) c.args.places.now.of.items c.args.places.now.count c.requires.kept c.requires.places;
  length = c.requires.kept.slots.matrix ∙ sym c.requires.places.length_is;
  placed = columns_placed (lists_of c.args.table.now) c.args.places.now.of.items c.args.places.now.count c.requires.kept c.requires.places;
}

pub renumber-requires : goal.renumber-requires
renumber-requires c =
    let first : 0 < LEVELS = omega arith in
    subst (λ (xs : List ℕ). slice_index_or xs 0 0 ≡ 0) (sym c.deref.ensures.value) (c.requires.places.levels 0 first)

pub renumber-requires-2 : goal.renumber-requires-2
renumber-requires-2 c =
    let first : 0 < LEVELS = omega arith in
    subst (λ (xs : List ℕ). slice_index_or xs 0 0 ≡ 0) (sym c.deref-2.ensures.value) (c.requires.places.levels 0 first)

pub returns-clause-packed : goal.returns-clause-packed
returns-clause-packed c =
    let attrs : AreRenumbered c.args.places.now.of.items c.args.table.now.attr_slots.items c.renumber.new.self.items =
    subst (λ (xs : List ℕ). AreRenumbered xs c.args.table.now.attr_slots.items c.renumber.new.self.items) c.deref.ensures.value c.in_ok-renumber.ensures.renumbered in
    on_ok_weaker c.renumber-2.result
    (λ (lines : AreRenumbered c.deref-2.result.now c.args.table.now.row_slots.items c.renumber-2.new.self.items).
    are_packed (lists_of c.args.table.now)
    (record {
      rows = c.args.table.now.rows.items;
      stays = c.args.table.now.stays.items;
      slots = c.move_slots.new.slots.items;
      standings = c.move_standings.new.standings.items;
      matrix = c.pack_rows.new.matrix.rows;
      attr_slots = c.renumber.new.self.items;
      row_slots = c.renumber-2.new.self.items;
      priorities = c.args.table.now.priorities.items;
    })
    c.args.places.now.of.items c.args.places.now.count c.requires.kept c.requires.places refl refl refl
    c.in_ok-move_slots.ensures.moved c.in_ok-move_standings.ensures.moved c.in_ok-pack_rows.ensures.moved attrs
    (subst (λ (xs : List ℕ). AreRenumbered xs c.args.table.now.row_slots.items c.renumber-2.new.self.items) c.deref-2.ensures.value lines))
    c.renumber-2.ensures.renumbered
