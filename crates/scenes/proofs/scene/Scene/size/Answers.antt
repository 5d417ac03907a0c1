use Rattle.std.proofs.Common.{None, Some, IfNone}
use Rattle.std.specs.declared.option.Option.{Option}
use Rattle.held_items.specs.Kept.{items_of}
use Rattle.held_items.proofs.Constants.Resized.{none-held}
use Rattle.scenes.proofs.scene.Scene.size.Goals as goal

weaker : {T P Q : Type 0} (o : Option T) → (P → Q) → IfNone o P → IfNone o Q
weaker None f p = f p
weaker (Some x) f p = tt

pub returns-clause-none : goal.returns-clause-none
returns-clause-none g c =
    rw (← c.self.view_is)
    (weaker c.size_of.result (none-held (items_of c.self.inside.items.items)) (rw c.as_slice.ensures at c.size_of.ensures.none))
