use Rattle.std.proofs.Common.{◌≡◌, ◌<◌, Option, Some, None, IfSome, IfNone, length, sym, subst, rules}
use Rattle.held_items.specs.Items.{Size, is_size, own_size, size_of}
use Rattle.held_items.specs.Kept.{items_of, size_in}
use Rattle.held_items.proofs.FirstItems.{first-is, first-within, no-first}
use Rattle.held_items.proofs.item.finding.size_of.Goals as goal

pub returns-in_err-place-clause-none : goal.returns-in_err-place-clause-none
returns-in_err-place-clause-none c =
    let none : size_of (items_of c.args.items.now) ≡ None = no-first is_size own_size (items_of c.args.items.now) c.in_err-place.ensures.none in
    search rules

pub bounds-items-place : goal.bounds-items-place
bounds-items-place c = first-within is_size c.args.items.now c.in_ok-place.place c.in_ok-place.ensures.some

pub offset_bounds-items-place : goal.offset_bounds-items-place
offset_bounds-items-place c =
    let within : c.in_ok-place.place < length c.args.items.now = first-within is_size c.args.items.now c.in_ok-place.place c.in_ok-place.ensures.some in
    search rules

pub returns-clause-some : goal.returns-clause-some
returns-clause-some c =
    subst (λ (o : Option Size). IfSome c.own_size.result (λ s. o ≡ Some (size_in s))) (sym (first-is is_size own_size c.args.items.now c.in_ok-place.place c.index-items-place.result c.in_ok-place.ensures.some c.index-items-place.is))
    c.own_size.ensures.some

pub returns-clause-none : goal.returns-clause-none
returns-clause-none c =
    subst (λ (o : Option Size). IfNone c.own_size.result (o ≡ None)) (sym (first-is is_size own_size c.args.items.now c.in_ok-place.place c.index-items-place.result c.in_ok-place.ensures.some c.index-items-place.is))
    c.own_size.ensures.none
