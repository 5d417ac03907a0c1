-- The window's size among what is held, and its rows with other constants.
use Rattle.std.proofs.Common.{◌≡◌, ◌<◌, ◌^◌, true, false, Some, None, List, [], ◌∷◌, refl, sym, subst, All}
use Rattle.std.specs.List.{AllByRecursion as Each}
use Rattle.std.proofs.lemmas.Option.{none-some, same_Some}
use Rattle.std.proofs.lemmas.List.Elements.{recursion_from_All}
use Rattle.held_items.specs.Items.{Item, Size, OfWindow, OfView, Sized, OfLine, Suggested, Intrinsic, has_size, size_of}
use Rattle.held_items.specs.Kept.{IsItem}

-- ---- whether one is held

pub none-held : (held : List Item) → size_of held ≡ None → has_size held ≡ false
none-held [] none = refl
none-held (OfWindow ∷ held) none = none-held held none
none-held (OfView first id ∷ held) none = none-held held none
none-held (Sized first w h ∷ held) none = absurd (none-some _ (sym none))
none-held (OfLine group line ∷ held) none = none-held held none
none-held (Suggested s ∷ held) none = none-held held none
none-held (Intrinsic s ∷ held) none = none-held held none

pub some-held : (held : List Item) (s : Size) → size_of held ≡ Some s → has_size held ≡ true
some-held [] s some = absurd (none-some s some)
some-held (OfWindow ∷ held) s some = some-held held s some
some-held (OfView first id ∷ held) s some = some-held held s some
some-held (Sized first w h ∷ held) s some = refl
some-held (OfLine group line ∷ held) s some = some-held held s some
some-held (Suggested own ∷ held) s some = some-held held s some
some-held (Intrinsic own ∷ held) s some = some-held held s some

-- ---- its number

first-number : (held : List Item) (s : Size) → Each IsItem held → size_of held ≡ Some s → (0 < s.first_row) × (s.first_row < 2 ^ 31)
first-number [] s each some = absurd (none-some s some)
first-number (OfWindow ∷ held) s each some = first-number held s each.1 some
first-number (OfView first id ∷ held) s each some = first-number held s each.1 some
first-number (Sized first w h ∷ held) s each some =
    let same : record { first_row = first; width = w; height = h } ≡ s = same_Some (record { first_row = first; width = w; height = h }) s some in
    subst (λ (t : Size). (0 < t.first_row) × (t.first_row < 2 ^ 31)) same each.0
first-number (OfLine group line ∷ held) s each some = first-number held s each.1 some
first-number (Suggested own ∷ held) s each some = first-number held s each.1 some
first-number (Intrinsic own ∷ held) s each some = first-number held s each.1 some

pub size-number : (held : List Item) (s : Size) → All IsItem held → size_of held ≡ Some s → (0 < s.first_row) × (s.first_row < 2 ^ 31)
size-number held s each some = first-number held s (recursion_from_All IsItem held each) some
