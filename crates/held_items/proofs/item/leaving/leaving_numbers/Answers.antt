use Rattle.std.proofs.Common.{◌≡◌, ◌++◌, true, false, sym, subst, rules}
use Rattle.held_items.specs.declared.item.Item as declared
use Rattle.held_items.specs.Leaving.{item_numbers}
use Rattle.held_items.specs.Kept.{IsItem, is_leaving, item_of}
use Rattle.held_items.proofs.Lists.{all-unmapped}
use Rattle.held_items.proofs.Removals.LeavingItems.{numbers-go, numbers-stay}
use Rattle.held_items.proofs.item.leaving.leaving_numbers.Goals.{then-is_leaving+in_ok-push_numbers, else-is_leaving}
use Rattle.held_items.proofs.item.leaving.leaving_numbers.Goals as goal

pub loop-item-preserved : goal.loop-item-preserved
loop-item-preserved c = elim c.if-is_leaving.branch [
  | then-is_leaving+in_ok-push_numbers w ↦ let is : is_leaving c.args.leaver.now (item_of c.item-item.result) ≡ true = search rules in
      let pushed : c.if-is_leaving.numbers.items ≡ c.loop-item.numbers.items ++ item_numbers (item_of c.item-item.result) = search rules in
      numbers-go (is_leaving c.args.leaver.now) c.args.items.now c.loop-item.item-index c.item-item.result c.loop-item.numbers.items c.if-is_leaving.numbers.items c.loop-item-test.true c.item-item.is c.loop-item.invariant is pushed
  | else-is_leaving w ↦ let is : is_leaving c.args.leaver.now (item_of c.item-item.result) ≡ false = search rules in
      let same : c.if-is_leaving.numbers.items ≡ c.loop-item.numbers.items = search rules in
      numbers-stay (is_leaving c.args.leaver.now) c.args.items.now c.loop-item.item-index c.item-item.result c.loop-item.numbers.items c.if-is_leaving.numbers.items c.loop-item-test.true c.item-item.is c.loop-item.invariant is same
]

pub push_numbers-requires : goal.push_numbers-requires
push_numbers-requires c =
    subst (λ (x : declared.Item). IsItem (item_of x)) (sym c.item-item.is) (all-unmapped item_of IsItem c.args.items.now c.requires c.loop-item.item-index c.item-item.result c.loop-item-test.true)
