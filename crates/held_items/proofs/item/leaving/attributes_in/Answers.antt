use Rattle.held_items.proofs.Removals.LeavingItems.{attributes-next}
use Rattle.held_items.proofs.item.leaving.attributes_in.Goals as goal

pub loop-id-preserved : goal.loop-id-preserved
loop-id-preserved c = attributes-next c.args.gone.now c.loop-id.id-index 0 c.loop-id.attrs.items _ c.loop-id-test.true c.loop-id.invariant (rw c.view_attributes.ensures at c.in_ok-extend_from_slice.ensures.items)
