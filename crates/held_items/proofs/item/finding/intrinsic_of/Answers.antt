use Rattle.std.proofs.Common.{◌≡◌, ◌∙◌, ◌<◌, None, length, sym, rules}
use Rattle.held_items.specs.Items.{intrinsic_of, is_intrinsic, own_intrinsic}
use Rattle.held_items.specs.Kept.{items_of}
use Rattle.held_items.proofs.FirstItems.{first-is, first-within, no-first}
use Rattle.held_items.proofs.item.finding.intrinsic_of.Goals as goal

pub returns-in_err-place : goal.returns-in_err-place
returns-in_err-place c =
    let none : intrinsic_of c.args.view (items_of c.args.items.now) ≡ None = no-first (is_intrinsic c.args.view) own_intrinsic (items_of c.args.items.now) c.in_err-place.ensures.none in
    search rules

pub bounds-items-place : goal.bounds-items-place
bounds-items-place c = first-within (is_intrinsic c.args.view) c.args.items.now c.in_ok-place.place c.in_ok-place.ensures.some

pub offset_bounds-items-place : goal.offset_bounds-items-place
offset_bounds-items-place c =
    let within : c.in_ok-place.place < length c.args.items.now = first-within (is_intrinsic c.args.view) c.args.items.now c.in_ok-place.place c.in_ok-place.ensures.some in
    search rules

pub returns : goal.returns
returns c =
    c.own_intrinsic.ensures
    ∙ sym (first-is (is_intrinsic c.args.view) own_intrinsic c.args.items.now c.in_ok-place.place c.index-items-place.result c.in_ok-place.ensures.some c.index-items-place.is)
