use Rattle.std.proofs.Common.{◌≡◌, ◌-◌, suc, refl, arith}
use Rattle.held_items.specs.Attributes.{attributes_from}
use Rattle.held_items.proofs.Views.ViewRows.{from-step, from-done}
use Rattle.held_items.proofs.item.coming.attributes_from.Goals as goal

pub loop-left-init : goal.loop-left-init
loop-left-init c = rw c.new-attrs.ensures.items (record { is = refl; small = c.requires })

pub loop-left-preserved : goal.loop-left-preserved
loop-left-preserved c =
    let one : c.loop-left.left ≡ suc (c.loop-left.left - 1) = omega (arith, c.loop-left-test.true) in
    record {
      is = from-step c.loop-left.attrs.items _ (attributes_from c.args.id c.args.count) c.loop-left.next c.loop-left.left (c.loop-left.left - 1) one c.loop-left.invariant.is (rw c.view_attributes.ensures at c.in_ok-extend_from_slice.ensures.items);
      small = omega (arith, c.loop-left.invariant.small, one);
    }

pub returns : goal.returns
returns c = from-done c.loop-left.attrs.items (attributes_from c.args.id c.args.count) c.loop-left.next c.loop-left.left (omega (arith, c.loop-left-test.false)) c.loop-left.invariant.is
