-- What an item of the code stands for, and what it keeps.
use Rattle.std.specs.Prelude.{ℕ, ◌+◌, ◌<◌, List, [], ◌∷◌, map, All, Bool}
use Rattle.view_tree.specs.Views.{LiveView}
use Rattle.held_items.specs.declared.item.leaving.Leaver.{Leaver}
use Rattle.held_items.specs.declared.item.leaving.Leaver.TheVariants as leaver
use Rattle.held_items.specs.Leaving.{attributes_in, goes_with, is_in_group}
use Rattle.held_items.specs.Items.{is_intrinsic, is_size, is_suggestion, replaced, sized, with_constant}
use Rattle.held_items.specs.Items.{intrinsic_changes, with_size}
use Rattle.held_items.specs.Moving.{size_changes}
use Rattle.layout_solver.specs.declared.engine.Change.{Change}
use Rattle.held_items.specs.declared.item.finding.Lone.{Lone}
use Rattle.held_items.specs.declared.item.finding.Lone.TheVariants as lone
use Rattle.held_items.specs.declared.item.intrinsic.IntrinsicSize.{IntrinsicSize}
use Rattle.held_items.specs.declared.item.renewing.Renewal.{Renewal}
use Rattle.held_items.specs.declared.item.renewing.Renewal.TheVariants as renewal
use Rattle.compile_parts.specs.Meaning.{IsRowRank}
use Rattle.held_items.specs.declared.item.Item as declared
use Rattle.held_items.specs.declared.item.HeldSize.{HeldSize}
use Rattle.held_items.specs.declared.item.Item.TheVariants as kind
use Rattle.constraint_compile.specs.Suggestions.{IsSuggestion}
use Rattle.held_items.specs.Items.{Item, Size, OfWindow, OfView, Sized, OfLine, Suggested, Intrinsic}
use Rattle.held_items.specs.Attributes.{AreOwned}
use Rattle.problem_core.specs.declared.limits.TheConstants.{NUMBER_LIMIT}
use Rattle.view_tree.specs.declared.limits.TheConstants.{ID_LIMIT}

-- what an item of the code stands for
abbrev pub item_of : declared.Item → Item
item_of kind.OfWindow = OfWindow
item_of (kind.OfView first_row id) = OfView first_row id
item_of (kind.Sized first_row width height) = Sized first_row width height
item_of (kind.OfLine group line) = OfLine group line
item_of (kind.Suggested s) = Suggested s
item_of (kind.Intrinsic s) = Intrinsic s

-- the same of each, in order
abbrev pub items_of : List declared.Item → List Item
items_of items = map item_of items

-- what a held size of the code stands for
abbrev pub size_in : HeldSize → Size
size_in s = record { first_row = s.first_row; width = s.size.width; height = s.size.height }

-- the numbers of its rows and of its view are such, and its ranks are those of rows
pub record IsIntrinsic (s : IntrinsicSize) : Type 0 where
  pub above : 0 < s.first_row
  pub below : s.first_row + 3 < NUMBER_LIMIT
  pub view : s.view < ID_LIMIT
  pub resist : IsRowRank s.resist
  pub hug : IsRowRank s.hug

-- the numbers of its rows are above 0 and those of views below their limit, and none is too great
abbrev pub IsItem : Item → Type 0
IsItem OfWindow = Unit {0}
IsItem (OfView first_row id) = ((0 < first_row) × (first_row < NUMBER_LIMIT)) × (id < ID_LIMIT)
IsItem (Sized first_row width height) = (0 < first_row) × (first_row < NUMBER_LIMIT)
IsItem (OfLine group line) = Unit {0}
IsItem (Suggested s) = IsSuggestion s
IsItem (Intrinsic s) = IsIntrinsic s

-- the attributes of a line's rows are those of views that its text names, or of their parents
abbrev pub IsNamed : List LiveView → Item → Type 0
IsNamed views OfWindow = Unit {0}
IsNamed views (OfView first_row id) = Unit {0}
IsNamed views (Sized first_row width height) = Unit {0}
IsNamed views (OfLine group line) = AreOwned views line
IsNamed views (Suggested s) = Unit {0}
IsNamed views (Intrinsic s) = Unit {0}

-- the item is one of those that leave
abbrev pub is_leaving : Leaver → Item → Bool
is_leaving (leaver.Group name) = is_in_group name
is_leaving (leaver.Views gone) = goes_with gone.items
is_leaving (leaver.Suggestion view word) = is_suggestion view word
is_leaving (leaver.Intrinsic view) = is_intrinsic view

-- the attributes that leave: those of views
abbrev pub leaving_attributes : Leaver → List ℕ
leaving_attributes (leaver.Group name) = []
leaving_attributes (leaver.Views gone) = attributes_in gone.items
leaving_attributes (leaver.Suggestion view word) = []
leaving_attributes (leaver.Intrinsic view) = []

-- the numbers of the views that leave are below their limit
abbrev pub HasSmallViews : Leaver → Type 0
HasSmallViews (leaver.Group name) = Unit {0}
HasSmallViews (leaver.Views gone) = All (λ id. id < ID_LIMIT) gone.items
HasSmallViews (leaver.Suggestion view word) = Unit {0}
HasSmallViews (leaver.Intrinsic view) = Unit {0}

-- the item is what is meant
abbrev pub is_lone : Lone → Item → Bool
is_lone lone.Size = is_size
is_lone (lone.Suggestion view word) = is_suggestion view word
is_lone (lone.Intrinsic view) = is_intrinsic view

-- the item is what gets other constants
abbrev pub is_renewed : Renewal → Item → Bool
is_renewed (renewal.Size held) = is_size
is_renewed (renewal.Suggestion again) = is_suggestion again.view again.word
is_renewed (renewal.Intrinsic again) = is_intrinsic again.view

-- the item with these constants
abbrev pub renewed : Renewal → Item → Item
renewed (renewal.Size held) = sized held.size.width held.size.height
renewed (renewal.Suggestion again) = with_constant again.constant
renewed (renewal.Intrinsic again) = with_size again.width again.height

-- its row numbers are below their limit
abbrev pub HasRowNumbers : Renewal → Type 0
HasRowNumbers (renewal.Size held) = held.first_row < NUMBER_LIMIT
HasRowNumbers (renewal.Suggestion again) = Unit {0}
HasRowNumbers (renewal.Intrinsic again) = IsIntrinsic again

-- what is held, with these constants
abbrev pub renewed_by : Renewal → List Item → List Item
renewed_by to held = replaced (is_renewed to) (renewed to) held

-- the constants of the rows of what gets others
abbrev pub changes_of : Renewal → List Change
changes_of (renewal.Size held) = size_changes held.first_row held.size.width held.size.height
changes_of (renewal.Suggestion again) = record { row = again.row; constant = again.constant } ∷ []
changes_of (renewal.Intrinsic again) = intrinsic_changes again
