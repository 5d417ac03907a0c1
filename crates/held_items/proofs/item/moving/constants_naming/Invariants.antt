use Rattle.std.proofs.Common.{take}
use Rattle.constraint_compile.specs.Naming.{AreConstantsOf, naming}
use Rattle.held_items.specs.Kept.{items_of}
use Rattle.held_items.specs.Moving.{forms_of}
use Rattle.held_items.proofs.item.moving.constants_naming.Given as goal

abbrev pub invariant-loop-item : goal.invariant-loop-item
invariant-loop-item l = AreConstantsOf l.metrics (naming l.name (forms_of (items_of (take l.item-index l.items)))) l.constants.items
