use Rattle.std.proofs.Common.{◌≡◌, ◌∙◌, ◌<◌, None, length, sym, rules}
use Rattle.held_items.specs.Items.{is_suggestion, own_suggestion, suggestion_of}
use Rattle.held_items.specs.Kept.{items_of}
use Rattle.held_items.proofs.FirstItems.{first-is, first-within, no-first}
use Rattle.held_items.proofs.item.finding.suggestion_of.Goals as goal

pub returns-in_err-place : goal.returns-in_err-place
returns-in_err-place c =
    let none : suggestion_of c.args.view c.args.word (items_of c.args.items.now) ≡ None = no-first (is_suggestion c.args.view c.args.word) own_suggestion (items_of c.args.items.now) c.in_err-place.ensures.none in
    search rules

pub bounds-items-place : goal.bounds-items-place
bounds-items-place c = first-within (is_suggestion c.args.view c.args.word) c.args.items.now c.in_ok-place.place c.in_ok-place.ensures.some

pub offset_bounds-items-place : goal.offset_bounds-items-place
offset_bounds-items-place c =
    let within : c.in_ok-place.place < length c.args.items.now = first-within (is_suggestion c.args.view c.args.word) c.args.items.now c.in_ok-place.place c.in_ok-place.ensures.some in
    search rules

pub returns : goal.returns
returns c =
    c.own_suggestion.ensures
    ∙ sym (first-is (is_suggestion c.args.view c.args.word) own_suggestion c.args.items.now c.in_ok-place.place c.index-items-place.result c.in_ok-place.ensures.some c.index-items-place.is)
