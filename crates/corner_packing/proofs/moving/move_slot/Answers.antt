use Rattle.std.proofs.Common.{rules, ◌≡◌, ◌∙◌, slice_index_or, slice_set, ap, sym}
use Rattle.std.proofs.lemmas.Option.{get_or_from_slice_get}
use Rattle.std.proofs.lemmas.Result.{on_ok_weaker}
use Rattle.row_core.specs.Renames.{place_in}
use Rattle.corner_packing.specs.Packing.{packed_slot}
use Rattle.corner_table.specs.Tables.{no_slot}
use Rattle.corner_packing.proofs.MovingFacts.{same_slot, stayed, was_put}
use Rattle.corner_packing.proofs.moving.move_slot.Goals as goal

pub returns-then-is_same-clause-moved : goal.returns-then-is_same-clause-moved
returns-then-is_same-clause-moved c =
    let got : slice_index_or c.args.slots.now.items c.args.w no_slot ≡ c.get.result.now = get_or_from_slice_get c.args.slots.now.items c.args.w c.get.result.now no_slot c.get.ensures in
    let there : place_in c.args.places.now.of.items c.args.w ≡ c.args.w = sym c.place_at-place.ensures ∙ c.if-place-w.true in
    let same : packed_slot c.args.places.now.of.items c.args.w c.get.result.now ≡ c.get.result.now =
    same_slot c.args.places.now.of.items c.args.w c.get.result.now c.packed_slot-moved.result c.packed_slot-moved.ensures (c.is_same.ensures.home c.if-is_same.true) (c.is_same.ensures.rank c.if-is_same.true) in
    stayed c.args.places.now.of.items c.args.w (packed_slot c.args.places.now.of.items c.args.w (slice_index_or c.args.slots.now.items c.args.w no_slot)) no_slot c.args.slots.now.items there
    (ap (packed_slot c.args.places.now.of.items c.args.w) got ∙ same ∙ sym got)

pub returns-clause-moved : goal.returns-clause-moved
returns-clause-moved c =
    let got : slice_index_or c.args.slots.now.items c.args.w no_slot ≡ c.get.result.now = get_or_from_slice_get c.args.slots.now.items c.args.w c.get.result.now no_slot c.get.ensures in
    on_ok_weaker c.put.result
    (λ (put : c.put.new.self.items ≡ slice_set c.args.slots.now.items c.place_at-place.result c.packed_slot-moved.result).
    was_put c.args.places.now.of.items c.args.w c.place_at-place.result (packed_slot c.args.places.now.of.items c.args.w (slice_index_or c.args.slots.now.items c.args.w no_slot)) c.packed_slot-moved.result
    c.args.slots.now.items c.put.new.self.items (c.is_placed.ensures.yes (search rules)) c.place_at-place.ensures
    (c.packed_slot-moved.ensures ∙ sym (ap (packed_slot c.args.places.now.of.items c.args.w) got)) put)
    c.put.ensures.ok
