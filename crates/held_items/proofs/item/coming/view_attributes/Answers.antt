use Rattle.std.proofs.Common.{refl}
use Rattle.held_items.proofs.item.coming.view_attributes.Goals as goal

pub returns : goal.returns
returns c = rw c.attributes-attrs.ensures refl
