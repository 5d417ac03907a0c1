use Rattle.std.proofs.Common.{◌≡◌, ◌∙◌, List, true, false, take, take_all, sym, ap, arith, rules}
use Rattle.std.specs.List.{list_any}
use Rattle.held_items.specs.declared.item.Item as declared
use Rattle.held_items.specs.Kept.{is_lone, item_of, items_of}
use Rattle.held_items.proofs.FirstItems.{first-at}
use Rattle.held_items.proofs.Removals.LeavingItems.{any-next}
use Rattle.held_items.proofs.item.finding.place_of.Goals as goal

pub returns-then-is_lone-clause-some : goal.returns-then-is_lone-clause-some
returns-then-is_lone-clause-some c =
    let is : is_lone c.args.which (item_of c.index-items-place.result) ≡ true = search rules in
    first-at (is_lone c.args.which) c.args.items.now c.loop-place.place c.index-items-place.result c.loop-place-test.true c.index-items-place.is c.loop-place.invariant is

pub loop-place-preserved : goal.loop-place-preserved
loop-place-preserved c =
    let no : is_lone c.args.which (item_of c.index-items-place.result) ≡ false = search rules in
    any-next (is_lone c.args.which) c.args.items.now c.loop-place.place c.index-items-place.result c.loop-place-test.true c.index-items-place.is c.loop-place.invariant ∙ no

pub returns-clause-none : goal.returns-clause-none
returns-clause-none c =
    let all : take c.loop-place.place c.args.items.now ≡ c.args.items.now = take_all c.loop-place.place c.args.items.now (omega (arith, c.loop-place-test.false)) in
    ap (λ (xs : List declared.Item). list_any (is_lone c.args.which) (items_of xs)) (sym all) ∙ c.loop-place.invariant
