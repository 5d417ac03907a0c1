-- What leaves with a group, a suggestion or views: items, and numbers of rows and attributes.
use Rattle.std.specs.Prelude.{ℕ, ◌+◌, Bool, false, cond, not, List, [], ◌∷◌, ◌++◌, filter, map, nat_eq}
use Rattle.std.specs.List.{list_any}
use Rattle.std.specs.Str.{bytes_eq}
use Rattle.view_tree.specs.Drops.{is_among}
use Rattle.held_items.specs.declared.row_numbers.TheConstants.{HEIGHT_ROW, LEFT_ROW, TOP_ROW, WIDTH_ROW}
use Rattle.held_items.specs.Attributes.{view_attributes}
use Rattle.held_items.specs.Items.{Item, OfWindow, OfView, Sized, OfLine, Suggested, Intrinsic}

-- ---- items

-- the item is a line of this group
abbrev pub is_in_group : List ℕ → Item → Bool
is_in_group group OfWindow = false
is_in_group group (OfView first_row id) = false
is_in_group group (Sized first_row width height) = false
is_in_group group (OfLine name line) = bytes_eq group name
is_in_group group (Suggested s) = false
is_in_group group (Intrinsic s) = false

-- the item is one of these views, a line whose text names one of them, or a suggestion or a size of one of
-- them
abbrev pub goes_with : List ℕ → Item → Bool
goes_with gone OfWindow = false
goes_with gone (OfView first_row id) = is_among gone id
goes_with gone (Sized first_row width height) = false
goes_with gone (OfLine name line) = list_any (λ id. list_any (λ v. nat_eq v id) line.views) gone
goes_with gone (Suggested s) = is_among gone s.view
goes_with gone (Intrinsic s) = is_among gone s.view

-- the held items that stay
abbrev pub staying : (Item → Bool) → List Item → List Item
staying goes held = filter (λ item. not (goes item)) held

-- ---- numbers of rows and of attributes

-- the numbers of an item's rows, in order
abbrev pub item_numbers : Item → List ℕ
item_numbers OfWindow = LEFT_ROW ∷ TOP_ROW ∷ WIDTH_ROW ∷ HEIGHT_ROW ∷ []
item_numbers (OfView first_row id) = first_row ∷ (first_row + 1) ∷ []
item_numbers (Sized first_row width height) = first_row ∷ (first_row + 1) ∷ []
item_numbers (OfLine name line) = map (λ f. f.id) line.rows
item_numbers (Suggested s) = s.row ∷ []
item_numbers (Intrinsic s) =
    s.first_row ∷ (s.first_row + 1) ∷ (s.first_row + 2) ∷ (s.first_row + 3) ∷ []

-- the numbers of the rows of what goes, in order
abbrev pub numbers_of : (Item → Bool) → List Item → List ℕ
numbers_of goes [] = []
numbers_of goes (item ∷ more) = cond (goes item) (item_numbers item) [] ++ numbers_of goes more

-- the attributes of these views, in order
abbrev pub attributes_in : List ℕ → List ℕ
attributes_in [] = []
attributes_in (id ∷ more) = view_attributes id ++ attributes_in more
