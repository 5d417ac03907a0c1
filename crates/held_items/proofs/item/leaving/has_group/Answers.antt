use Rattle.std.proofs.Common.{◌≡◌, ◌∙◌, true, false, sym, rules}
use Rattle.held_items.specs.Leaving.{is_in_group}
use Rattle.held_items.specs.Kept.{item_of}
use Rattle.held_items.proofs.Removals.LeavingItems.{any-next, any-at}
use Rattle.held_items.proofs.item.leaving.has_group.Goals as goal

pub returns-then-is_in_group : goal.returns-then-is_in_group
returns-then-is_in_group c =
    let is : is_in_group c.args.name.now (item_of c.item-item.result) ≡ true = search rules in
    sym (any-at (is_in_group c.args.name.now) c.args.items.now c.loop-item.item-index c.item-item.result c.loop-item-test.true c.item-item.is is)

pub loop-item-preserved : goal.loop-item-preserved
loop-item-preserved c =
    let no : is_in_group c.args.name.now (item_of c.item-item.result) ≡ false = search rules in
    any-next (is_in_group c.args.name.now) c.args.items.now c.loop-item.item-index c.item-item.result c.loop-item-test.true c.item-item.is c.loop-item.invariant ∙ no
