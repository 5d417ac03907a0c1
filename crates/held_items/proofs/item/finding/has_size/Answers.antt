use Rattle.std.proofs.Common.{◌≡◌, ◌∙◌, Option, Some, None, IfSome, IfNone, ℕ, false, is_some, List, sym}
use Rattle.std.specs.List.{list_any}
use Rattle.held_items.specs.Items.{IsFirstPlace, Item, is_size}
use Rattle.held_items.specs.Kept.{items_of}
use Rattle.held_items.proofs.FirstItems.{first-any}
use Rattle.held_items.proofs.item.finding.has_size.Goals as goal

-- where a place was found there is a size
found : (held : List Item) (o : Option ℕ) → IfSome o (λ place. IsFirstPlace is_size held place) → IfNone o (list_any is_size held ≡ false) → is_some o ≡ list_any is_size held
found held (Some place) at none = sym (first-any is_size held place at)
found held None at none = sym none

pub returns : goal.returns
returns c = c.is_some.ensures ∙ found (items_of c.args.items.now) c.place_of.result c.place_of.ensures.some c.place_of.ensures.none
