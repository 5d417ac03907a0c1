-- Held items and their rows.
use Rattle.std.specs.Prelude.{◌≡◌, ℕ, zero, suc, ◌+◌, Bool, true, false, cond}
use Rattle.std.specs.Prelude.{List, [], ◌∷◌, ◌++◌, length, filter}
use Rattle.std.specs.Prelude.{Option, Some, None, ◌&&◌, nat_eq, codes, pos}
use Rattle.std.specs.List.{list_any}
use Rattle.span_text.specs.Bytes.{point}
use Rattle.frac_core.specs.Fraction.{Fraction}
use Rattle.problem_core.specs.declared.parts.Rel.{Rel}
use Rattle.problem_core.specs.declared.parts.Rel.TheVariants.{Eq, Ge, Le}
use Rattle.problem_core.specs.Layout.{Row}
use Rattle.problem_core.specs.Window.{required_row, structural_rows, zero_fraction}
use Rattle.view_tree.specs.Attributes.{width_of, height_of}
use Rattle.compile_parts.specs.Meaning.{MetricList}
use Rattle.script_text.specs.Grammar.{word_text}
use Rattle.script_text.specs.declared.words.AttrWord.{AttrWord}
use Rattle.script_text.specs.declared.words.AttrWord.TheVariants as attr
use Rattle.constraint_compile.specs.Compiled.{CompiledLine, AreRowsNow, AreSmallForms}
use Rattle.constraint_compile.specs.Suggestions.{suggested_row}
use Rattle.constraint_compile.specs.declared.suggestion.Suggestion.{Suggestion}
use Rattle.layout_solver.specs.declared.engine.Change.{Change}
use Rattle.held_items.specs.declared.item.intrinsic.IntrinsicSize.{IntrinsicSize}
use Rattle.held_items.specs.declared.row_numbers.TheConstants.{VIEW_ROWS}

-- the window, whose left and top are 0 and whose width and height are at least 0; a view, whose width and
-- height are at least 0, with the number of its first row and its own; the window's width and height, with
-- the number of their first row; a line of a group, with the group's name; a suggestion; the size that a view
-- would like
pub data Item : Type 0 where
  OfWindow : Item
  OfView : ℕ → ℕ → Item
  Sized : ℕ → Fraction → Fraction → Item
  OfLine : List ℕ → CompiledLine → Item
  Suggested : Suggestion → Item
  Intrinsic : IntrinsicSize → Item

-- ---- rows

-- a view's width and height are at least 0
abbrev pub view_rows : ℕ → ℕ → List Row
view_rows first_row id =
    required_row first_row (width_of id) Ge zero_fraction
    ∷ required_row (first_row + 1) (height_of id) Ge zero_fraction ∷ []

-- the rows of so many views, of which the first has these numbers of its first row and its own: those of each
-- later one are `VIEW_ROWS` and 1 more
abbrev pub rows_of_views : ℕ → ℕ → ℕ → List Row
rows_of_views first_row id zero = []
rows_of_views first_row id (suc count) =
    view_rows first_row id ++ rows_of_views (first_row + VIEW_ROWS) (id + 1) count

-- these views
abbrev pub view_items : ℕ → ℕ → ℕ → List Item
view_items first_row id zero = []
view_items first_row id (suc count) = OfView first_row id ∷ view_items (first_row + VIEW_ROWS) (id + 1) count

-- the window's width and height are these
abbrev pub size_rows : ℕ → Fraction → Fraction → List Row
size_rows first_row width height =
    required_row first_row (width_of 0) Eq width ∷ required_row (first_row + 1) (height_of 0) Eq height ∷ []

-- the row by which an attribute is at least the constant, or at most, at this rank
abbrev pub bound : ℕ → ℕ → ℕ → Rel → Fraction → Row
bound id rank attr rel constant = record {
  id = id;
  rank = rank;
  weight = 1;
  rel = rel;
  scale = 1;
  constant = constant;
  terms = record { attr = attr; by = pos 1 } ∷ [];
}

-- it resists being less at one rank, and being more at another
abbrev pub bounds : ℕ → ℕ → ℕ → ℕ → Fraction → List Row
bounds id resist hug attr constant =
    bound id resist attr Ge constant ∷ bound (id + 1) hug attr Le constant ∷ []

-- so do the width and the height of a view
abbrev pub intrinsic_rows : IntrinsicSize → List Row
intrinsic_rows s = bounds s.first_row s.resist s.hug (width_of s.view) s.width
    ++ bounds (s.first_row + 2) s.resist s.hug (height_of s.view) s.height

-- the rows of an item, for these metrics
abbrev pub AreItemRows : MetricList → Item → List Row → Type 0
AreItemRows metrics OfWindow rows = rows ≡ structural_rows
AreItemRows metrics (OfView first_row id) rows = rows ≡ view_rows first_row id
AreItemRows metrics (Sized first_row width height) rows = rows ≡ size_rows first_row width height
AreItemRows metrics (OfLine group line) rows = AreRowsNow metrics line.rows rows
AreItemRows metrics (Suggested s) rows = rows ≡ suggested_row s ∷ []
AreItemRows metrics (Intrinsic s) rows = rows ≡ intrinsic_rows s

-- the rows of some items, in the order of the items
abbrev pub AreRows : MetricList → List Item → List Row → Type 0
AreRows metrics [] rows = rows ≡ []
AreRows metrics (item ∷ more) rows =
    (front : List Row) × (back : List Row) × (rows ≡ front ++ back) × AreItemRows metrics item front
    × AreRows metrics more back

-- after each term of each row its constant is small
abbrev pub IsSmallItem : MetricList → Item → Type 0
IsSmallItem metrics OfWindow = Unit {0}
IsSmallItem metrics (OfView first_row id) = Unit {0}
IsSmallItem metrics (Sized first_row width height) = Unit {0}
IsSmallItem metrics (OfLine group line) = AreSmallForms metrics line.rows
IsSmallItem metrics (Suggested s) = Unit {0}
IsSmallItem metrics (Intrinsic s) = Unit {0}

-- ---- kinds

-- the item is a line of a group
abbrev pub is_line : Item → Bool
is_line OfWindow = false
is_line (OfView first_row id) = false
is_line (Sized first_row width height) = false
is_line (OfLine group line) = true
is_line (Suggested s) = false
is_line (Intrinsic s) = false

-- how many lines of groups are held
abbrev pub line_count : List Item → ℕ
line_count held = length (filter is_line held)

-- the item is the window's size
abbrev pub is_size : Item → Bool
is_size OfWindow = false
is_size (OfView first_row id) = false
is_size (Sized first_row width height) = true
is_size (OfLine group line) = false
is_size (Suggested s) = false
is_size (Intrinsic s) = false

-- ---- the first of some kind

-- what the first item of this kind is
abbrev pub first_of : {A : Type 0} → (Item → Bool) → (Item → Option A) → List Item → Option A
first_of is own [] = None
first_of is own (item ∷ more) = cond (is item) (own item) (first_of is own more)

-- the first item of this kind is this one
abbrev pub replaced : (Item → Bool) → (Item → Item) → List Item → List Item
replaced is other [] = []
replaced is other (item ∷ more) = cond (is item) (other item ∷ more) (item ∷ replaced is other more)

-- the place is that of the first item of this kind
abbrev pub IsFirstPlace : (Item → Bool) → List Item → ℕ → Type 0
IsFirstPlace is [] place = ⊥
IsFirstPlace is (item ∷ more) zero = is item ≡ true
IsFirstPlace is (item ∷ more) (suc place) = (is item ≡ false) × IsFirstPlace is more place

-- ---- the window's size

-- a size is held
abbrev pub has_size : List Item → Bool
has_size held = list_any is_size held

-- the item with these constants, if it is the window's size
abbrev pub sized : Fraction → Fraction → Item → Item
sized width height OfWindow = OfWindow
sized width height (OfView first_row id) = OfView first_row id
sized width height (Sized first_row w h) = Sized first_row width height
sized width height (OfLine group line) = OfLine group line
sized width height (Suggested s) = Suggested s
sized width height (Intrinsic s) = Intrinsic s

-- the first size is this one
abbrev pub resized : Fraction → Fraction → List Item → List Item
resized width height held = replaced is_size (sized width height) held

-- the number of the first row of the window's size, and its constants
pub record Size : Type 0 where
  pub first_row : ℕ
  pub width : Fraction
  pub height : Fraction

-- the item's size, if it is the window's
abbrev pub own_size : Item → Option Size
own_size OfWindow = None
own_size (OfView first_row id) = None
own_size (Sized first_row width height) =
    Some (record { first_row = first_row; width = width; height = height })
own_size (OfLine group line) = None
own_size (Suggested s) = None
own_size (Intrinsic s) = None

-- the window's size, if one is held
abbrev pub size_of : List Item → Option Size
size_of held = first_of is_size own_size held

-- ---- suggestions

-- the words of attributes as they are written, numbered
abbrev pub word_number : AttrWord → ℕ
word_number attr.Left = 0
word_number attr.Top = 1
word_number attr.Width = 2
word_number attr.Height = 3
word_number attr.Right = 4
word_number attr.Bottom = 5
word_number attr.CenterX = 6
word_number attr.CenterY = 7
word_number attr.Leading = 8
word_number attr.Trailing = 9

-- the item is the suggestion of this attribute, as it is written, of the view of this number
abbrev pub is_suggestion : ℕ → AttrWord → Item → Bool
is_suggestion view word OfWindow = false
is_suggestion view word (OfView first_row id) = false
is_suggestion view word (Sized first_row width height) = false
is_suggestion view word (OfLine group line) = false
is_suggestion view word (Suggested s) = nat_eq s.view view && nat_eq (word_number s.word) (word_number word)
is_suggestion view word (Intrinsic s) = false

-- the item's suggestion, if it is one
abbrev pub own_suggestion : Item → Option Suggestion
own_suggestion OfWindow = None
own_suggestion (OfView first_row id) = None
own_suggestion (Sized first_row width height) = None
own_suggestion (OfLine group line) = None
own_suggestion (Suggested s) = Some s
own_suggestion (Intrinsic s) = None

-- that suggestion, if one is held
abbrev pub suggestion_of : ℕ → AttrWord → List Item → Option Suggestion
suggestion_of view word held = first_of (is_suggestion view word) own_suggestion held

-- the item with this constant, if it is a suggestion
abbrev pub with_constant : Fraction → Item → Item
with_constant constant OfWindow = OfWindow
with_constant constant (OfView first_row id) = OfView first_row id
with_constant constant (Sized first_row width height) = Sized first_row width height
with_constant constant (OfLine group line) = OfLine group line
with_constant constant (Suggested s) = Suggested (record s { constant = constant })
with_constant constant (Intrinsic s) = Intrinsic s

-- the first suggestion of this attribute has this constant
abbrev pub suggested_again : ℕ → AttrWord → Fraction → List Item → List Item
suggested_again view word constant held = replaced (is_suggestion view word) (with_constant constant) held

-- the view, a dot and the attribute
abbrev pub suggestion_name : List ℕ → AttrWord → List ℕ
suggestion_name name attr = name ++ (point ∷ word_text attr)

-- ---- sizes of views

-- the item is the size that the view of this number would like
abbrev pub is_intrinsic : ℕ → Item → Bool
is_intrinsic view OfWindow = false
is_intrinsic view (OfView first_row id) = false
is_intrinsic view (Sized first_row width height) = false
is_intrinsic view (OfLine group line) = false
is_intrinsic view (Suggested s) = false
is_intrinsic view (Intrinsic s) = nat_eq s.view view

-- the item's size, if it is one of a view
abbrev pub own_intrinsic : Item → Option IntrinsicSize
own_intrinsic OfWindow = None
own_intrinsic (OfView first_row id) = None
own_intrinsic (Sized first_row width height) = None
own_intrinsic (OfLine group line) = None
own_intrinsic (Suggested s) = None
own_intrinsic (Intrinsic s) = Some s

-- the size that the view would like, if one is held
abbrev pub intrinsic_of : ℕ → List Item → Option IntrinsicSize
intrinsic_of view held = first_of (is_intrinsic view) own_intrinsic held

-- the item with this width and height, if it is the size of a view; its ranks and rows stay
abbrev pub with_size : Fraction → Fraction → Item → Item
with_size width height OfWindow = OfWindow
with_size width height (OfView first_row id) = OfView first_row id
with_size width height (Sized first_row w h) = Sized first_row w h
with_size width height (OfLine group line) = OfLine group line
with_size width height (Suggested s) = Suggested s
with_size width height (Intrinsic s) = Intrinsic (record s { width = width; height = height })

-- the first size of this view is this one
abbrev pub intrinsic_again : ℕ → Fraction → Fraction → List Item → List Item
intrinsic_again view width height held = replaced (is_intrinsic view) (with_size width height) held

-- the constants of the rows of a view's size
abbrev pub intrinsic_changes : IntrinsicSize → List Change
intrinsic_changes s = (record { row = s.first_row; constant = s.width })
    ∷ (record { row = s.first_row + 1; constant = s.width })
    ∷ (record { row = s.first_row + 2; constant = s.height })
    ∷ (record { row = s.first_row + 3; constant = s.height }) ∷ []

-- the view, a dot and `size`
abbrev pub intrinsic_name : List ℕ → List ℕ
intrinsic_name name = name ++ codes ".size"
