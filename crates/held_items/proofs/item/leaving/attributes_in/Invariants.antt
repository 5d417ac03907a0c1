use Rattle.std.proofs.Common.{◌≡◌, take}
use Rattle.held_items.specs.Leaving.{attributes_in}
use Rattle.held_items.proofs.item.leaving.attributes_in.Given as goal

abbrev pub invariant-loop-id : goal.invariant-loop-id
invariant-loop-id l = l.attrs.items ≡ attributes_in (take l.id-index l.gone)
