-- The limits of what a scene holds, and the usual ranks of a view's size, written out.
use Rattle.std.specs.Prelude.{◌≡◌}
use Rattle.held_items.specs.declared.limits.TheConstants.{EARLIER, MOST_ROWS}
use Rattle.held_items.specs.declared.item.intrinsic.TheConstants.{USUAL_HUG, USUAL_RESIST}

-- A scene holds at most 2,000 rows of lines, and keeps 32 earlier scenes. A view hugs at 250, and resists at
-- 750.
abbrev pub ConstantsAreAsSaid : Type 0
ConstantsAreAsSaid = (MOST_ROWS ≡ 2000) × (EARLIER ≡ 32) × (USUAL_HUG ≡ 250) × (USUAL_RESIST ≡ 750)
