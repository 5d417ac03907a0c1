-- The rows of what is held.
use Rattle.std.proofs.Common.{◌≡◌, inl, inr, Some, ℕ, ◌+◌, ◌<◌, ◌≤◌, arith, List, [], ◌∷◌, ◌++◌, take, length, refl, sym, ap, ◌∙◌, append_assoc, All}
use Rattle.std.proofs.Math.ListN.{get_or}
use Rattle.std.proofs.lemmas.List.{append-nil, length-map, take_more, map-append}
use Rattle.std.proofs.lemmas.List.Sums.{count_by-le-length, length-filter}
use Rattle.std.specs.List.{AllByRecursion as Each}
use Rattle.std.proofs.lemmas.List.Elements.{recursion_from_All, All-from_recursion}
use Rattle.problem_core.specs.Layout.{Row}
use Rattle.compile_parts.specs.Meaning.{MetricList}
use Rattle.held_items.specs.declared.item.Item as declared
use Rattle.held_items.specs.Items.{Item, OfWindow, OfView, Sized, OfLine, Suggested, Intrinsic, AreItemRows, AreRows, IsSmallItem, is_line, line_count}
use Rattle.held_items.specs.Kept.{item_of, items_of, IsNamed}
use Rattle.held_items.specs.Attributes.{IsClose}
use Rattle.view_tree.specs.Views.{LiveView}
use Rattle.view_tree.proofs.ViewLemmas.{HasParent-append}

-- ---- items of the code

-- with one item more
pub items-more : (items new : List declared.Item) (item : declared.Item) → new ≡ items ++ item ∷ [] → items_of new ≡ items_of items ++ item_of item ∷ []
items-more items new item is = ap items_of is ∙ map-append item_of items (item ∷ [])

-- one item further along a list
pub line-more : (items : List declared.Item) (i : ℕ) (item : declared.Item) → i < length items → item ≡ get_or items i item → items_of (take (i + 1) items) ≡ items_of (take i items) ++ item_of item ∷ []
line-more items i item within read =
    ap items_of (take_more items i item within ∙ ap (λ (x : declared.Item). take i items ++ x ∷ []) (sym read)) ∙ map-append item_of (take i items) (item ∷ [])

-- ---- rows

-- with one item more
pub rows-more : (ms : MetricList) (held : List Item) (item : Item) (rows more : List Row) → AreRows ms held rows → AreItemRows ms item more → AreRows ms (held ++ item ∷ []) (rows ++ more)
rows-more ms [] item rows more are new = (more, [], ap (λ (r : List Row). r ++ more) are ∙ sym (append-nil more), new, refl)
rows-more ms (x ∷ held) item rows more (front, back, is, first, rest) new =
    (front, back ++ more, ap (λ (r : List Row). r ++ more) is ∙ append_assoc front back more, first, rows-more ms held item back more rest new)

-- what has rows is small
item-small : (ms : MetricList) (item : Item) (rows : List Row) → AreItemRows ms item rows → IsSmallItem ms item
item-small ms OfWindow rows are = tt
item-small ms (OfView first id) rows are = tt
item-small ms (Sized first width height) rows are = tt
item-small ms (OfLine group line) rows are = are.small
item-small ms (Suggested s) rows are = tt
item-small ms (Intrinsic s) rows are = tt

each-small : (ms : MetricList) (items : List Item) (rows : List Row) → AreRows ms items rows → Each (IsSmallItem ms) items
each-small ms [] rows are = tt
each-small ms (x ∷ items) rows (front, back, is, first, rest) = (item-small ms x front first, each-small ms items back rest)

pub rows-small : (ms : MetricList) (items : List Item) (rows : List Row) → AreRows ms items rows → All (IsSmallItem ms) items
rows-small ms items rows are = All-from_recursion (IsSmallItem ms) items (each-small ms items rows are)

-- ---- numbers

each-more : (P : Item → Type 0) (held : List Item) (item : Item) → Each P held → P item → Each P (held ++ item ∷ [])
each-more P [] item h k = (k, tt)
each-more P (x ∷ held) item h k = (h.0, each-more P held item h.1 k)

pub all-more : (P : Item → Type 0) (held : List Item) (item : Item) → All P held → P item → All P (held ++ item ∷ [])
all-more P held item h k = All-from_recursion P (held ++ item ∷ []) (each-more P held item (recursion_from_All P held h) k)

-- views that come leave what is named
child-append : (views more : List LiveView) (named : List ℕ) (id : ℕ) → IsClose views named id → IsClose (views ++ more) named id
child-append views more named id (inl here) = inl here
child-append views more named id (inr (child, known, has)) = inr (child, known, HasParent-append views more child (Some id) has)

named-append : (views more : List LiveView) (item : Item) → IsNamed views item → IsNamed (views ++ more) item
named-append views more OfWindow is = is
named-append views more (OfView first id) is = is
named-append views more (Sized first width height) is = is
named-append views more (OfLine group line) is = λ k d within j e inside. (let owner = is k d within j e inside in (owner.0, child-append views more line.views owner.0 owner.1, owner.2))
named-append views more (Suggested s) is = is
named-append views more (Intrinsic s) is = is

pub all-named-append : (views more : List LiveView) (held : List Item) → All (IsNamed views) held → All (IsNamed (views ++ more)) held
all-named-append views more held all k d within = named-append views more (get_or held k d) (all k d within)

-- ---- counts along a list

pub few-lines : (items : List declared.Item) → line_count (items_of items) ≤ length items
few-lines items = omega (arith, length-filter is_line (items_of items), count_by-le-length is_line (items_of items), length-map items item_of)
