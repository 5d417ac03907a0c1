-- The rows of views that come, their items and their attributes.
use Rattle.std.proofs.Common.{◌≡◌, ℕ, zero, suc, ◌+◌, ◌*◌, ◌^◌, ◌<◌, ◌≤◌, List, [], ◌∷◌, ◌++◌, length, append_assoc, refl, sym, ap, ap₂, subst, ◌∙◌, arith, All, AllPairs}
use Rattle.std.specs.List.{Contains, AllByRecursion as Each}
use Rattle.std.proofs.lemmas.List.{append-nil}
use Rattle.std.proofs.lemmas.List.Elements.{All-from_recursion, Contains-append_left, Contains-append_right}
use Rattle.problem_core.specs.declared.parts.Rel.TheVariants.{Ge}
use Rattle.problem_core.specs.Layout.{Row}
use Rattle.problem_core.specs.Kept.{IsNumber, IsRow}
use Rattle.problem_core.specs.Window.{required_row, zero_fraction}
use Rattle.view_tree.specs.Views.{LiveView}
use Rattle.compile_parts.specs.Meaning.{MetricList}
use Rattle.held_items.specs.Items.{Item, OfView, AreRows, view_rows, rows_of_views, view_items}
use Rattle.held_items.specs.Kept.{IsItem, IsNamed}
use Rattle.held_items.specs.Attributes.{view_attributes, all_attributes, attributes_from, HasOnly}
use Rattle.held_items.proofs.Lists.{pairs-cons, four-rising, rising-append}
use Rattle.held_items.proofs.Views.Attributes.{four-numbers, contains-width, contains-height}
use Rattle.held_items.proofs.Views.Attributes.{MayBeNew}
use Rattle.held_items.specs.Attributes.{MayBeAdded}
use Rattle.held_items.proofs.HeldRows.RequiredRows.{one-only, once}
use Rattle.frac_core.proofs.Lists.{pairs-nil}

-- ---- rows

pub rows-come : (ms : MetricList) (first id n : ℕ) → AreRows ms (view_items first id n) (rows_of_views first id n)
rows-come ms first id zero = refl
rows-come ms first id (suc n) = (view_rows first id, rows_of_views (first + 2) (id + 1) n, refl, refl, rows-come ms (first + 2) (id + 1) n)

-- with more items
pub rows-join : (ms : MetricList) (held items : List Item) (rows more : List Row) → AreRows ms held rows → AreRows ms items more → AreRows ms (held ++ items) (rows ++ more)
rows-join ms [] items rows more are new = subst (AreRows ms items) (sym (ap (λ (r : List Row). r ++ more) are)) new
rows-join ms (x ∷ held) items rows more (front, back, is, first, rest) new =
    (front, back ++ more, ap (λ (r : List Row). r ++ more) is ∙ append_assoc front back more, first, rows-join ms held items back more rest new)

pub rows-count : (first id n : ℕ) → length (rows_of_views first id n) ≡ 2 * n
rows-count first id zero = refl
rows-count first id (suc n) = omega (arith, rows-count (first + 2) (id + 1) n)

rows-from : (m first id n : ℕ) → m ≤ first → Each (λ r. m ≤ r.id) (rows_of_views first id n)
rows-from m first id zero h = tt
rows-from m first id (suc n) h = (h, (omega (arith, h), rows-from m (first + 2) (id + 1) n (omega (arith, h))))

pub rows-before : (m first id n : ℕ) → first + 2 * n ≤ m → Each (λ r. r.id < m) (rows_of_views first id n)
rows-before m first id zero h = tt
rows-before m first id (suc n) h = (omega (arith, h), (omega (arith, h), rows-before m (first + 2) (id + 1) n (omega (arith, h))))

two-rising : (first id : ℕ) → AllPairs (λ r s. r.id < s.id) (view_rows first id)
two-rising first id =
    pairs-cons (λ (x y : Row). x.id < y.id) (required_row first (4 * id + 3) Ge zero_fraction) (required_row (first + 1) (4 * id + 4) Ge zero_fraction ∷ [])
    (All-from_recursion (λ (y : Row). first < y.id) (required_row (first + 1) (4 * id + 4) Ge zero_fraction ∷ []) (omega arith, tt))
    (pairs-cons (λ (x y : Row). x.id < y.id) (required_row (first + 1) (4 * id + 4) Ge zero_fraction) [] (All-from_recursion (λ (y : Row). first + 1 < y.id) [] tt) (pairs-nil (λ (x y : Row). x.id < y.id)))

rows-rising : (first id n : ℕ) → AllPairs (λ r s. r.id < s.id) (rows_of_views first id n)
rows-rising first id zero = pairs-nil (λ (r s : Row). r.id < s.id)
rows-rising first id (suc n) =
    rising-append (λ (r : Row). r.id) (view_rows first id) (rows_of_views (first + 2) (id + 1) n) (first + 2) (two-rising first id) (rows-rising (first + 2) (id + 1) n)
    (All-from_recursion (λ (r : Row). r.id < first + 2) (view_rows first id) (omega arith, (omega arith, tt)))
    (All-from_recursion (λ (r : Row). first + 2 ≤ r.id) (rows_of_views (first + 2) (id + 1) n) (rows-from (first + 2) (first + 2) (id + 1) n (omega arith)))

rows-only : (attrs : List ℕ) (first id n : ℕ) → ((a : ℕ) → Contains (attributes_from id n) a → Contains attrs a) → Each (HasOnly attrs) (rows_of_views first id n)
rows-only attrs first id zero inside = tt
rows-only attrs first id (suc n) inside = (
  one-only attrs (once (4 * id + 3)) (inside (4 * id + 3) (Contains-append_left (view_attributes id) (attributes_from (id + 1) n) (4 * id + 3) (contains-width id))),
  (
    one-only attrs (once (4 * id + 4)) (inside (4 * id + 4) (Contains-append_left (view_attributes id) (attributes_from (id + 1) n) (4 * id + 4) (contains-height id))),
    rows-only attrs (first + 2) (id + 1) n (λ a within. inside a (Contains-append_right (view_attributes id) (attributes_from (id + 1) n) a within)),
  ),
)

pub views-may : (views : List LiveView) (next id n : ℕ) (more : List Row) → more ≡ rows_of_views next id n → All IsRow more → MayBeAdded (all_attributes views ++ attributes_from id n) next more
views-may views next id n more is each =
    subst (MayBeAdded (all_attributes views ++ attributes_from id n) next) (sym is) (record {
      rows = subst (All IsRow) is each;
      rising = rows-rising next id n;
      above = All-from_recursion (λ (r : Row). next ≤ r.id) (rows_of_views next id n) (rows-from next next id n (omega arith));
      only = All-from_recursion (HasOnly (all_attributes views ++ attributes_from id n)) (rows_of_views next id n) (rows-only (all_attributes views ++ attributes_from id n) next id n (Contains-append_right (all_attributes views) (attributes_from id n)));
    })

-- ---- items

items-each : (first id n : ℕ) → 0 < first → first + 2 * n ≤ 2 ^ 31 → id + n ≤ 2 ^ 29 → Each IsItem (view_items first id n)
items-each first id zero some rows ids = tt
items-each first id (suc n) some rows ids = (((some, omega (arith, rows)), omega (arith, ids)), items-each (first + 2) (id + 1) n (omega arith) (omega (arith, rows)) (omega (arith, ids)))

pub all-items : (first id n : ℕ) → 0 < first → first + 2 * n ≤ 2 ^ 31 → id + n ≤ 2 ^ 29 → All IsItem (view_items first id n)
all-items first id n some rows ids = All-from_recursion IsItem (view_items first id n) (items-each first id n some rows ids)

items-named : (views : List LiveView) (first id n : ℕ) → Each (IsNamed views) (view_items first id n)
items-named views first id zero = tt
items-named views first id (suc n) = (tt, items-named views (first + 2) (id + 1) n)

pub all-names : (views : List LiveView) (first id n : ℕ) → All (IsNamed views) (view_items first id n)
all-names views first id n = All-from_recursion (IsNamed views) (view_items first id n) (items-named views first id n)

-- ---- attributes

from-numbers : (id n : ℕ) → id + n ≤ 2 ^ 29 → Each IsNumber (attributes_from id n)
from-numbers id zero h = tt
from-numbers id (suc n) h = let four = four-numbers id (omega (arith, h)) in (four.0, (four.1.0, (four.1.1.0, (four.1.1.1.0, from-numbers (id + 1) n (omega (arith, h))))))

from-above : (m id n : ℕ) → m ≤ 4 * id + 1 → Each (λ a. m ≤ a) (attributes_from id n)
from-above m id zero h = tt
from-above m id (suc n) h = (omega (arith, h), (omega (arith, h), (omega (arith, h), (omega (arith, h), from-above m (id + 1) n (omega (arith, h))))))

from-rising : (id n : ℕ) → AllPairs (λ a b. a < b) (attributes_from id n)
from-rising id zero = pairs-nil (λ (a b : ℕ). a < b)
from-rising id (suc n) =
    rising-append (λ (a : ℕ). a) (view_attributes id) (attributes_from (id + 1) n) (4 * id + 5)
    (four-rising (λ (a : ℕ). a) (4 * id + 1) (4 * id + 2) (4 * id + 3) (4 * id + 4) (omega arith) (omega arith) (omega arith)) (from-rising (id + 1) n)
    (All-from_recursion (λ a. a < 4 * id + 5) (view_attributes id) (omega arith, (omega arith, (omega arith, (omega arith, tt)))))
    (All-from_recursion (λ a. 4 * id + 5 ≤ a) (attributes_from (id + 1) n) (from-above (4 * id + 5) (id + 1) n (omega arith)))

pub come-new : (id n : ℕ) → id + n ≤ 2 ^ 29 → MayBeNew (4 * id + 1) (attributes_from id n)
come-new id n h = record {
  numbers = All-from_recursion IsNumber (attributes_from id n) (from-numbers id n h);
  rising = from-rising id n;
  above = All-from_recursion (λ a. 4 * id + 1 ≤ a) (attributes_from id n) (from-above (4 * id + 1) id n (omega arith));
}

-- ---- one after another

-- one view's attributes more
pub from-step : (attrs new all : List ℕ) (next left rest : ℕ) → left ≡ suc rest → attrs ++ attributes_from next left ≡ all → new ≡ attrs ++ view_attributes next → new ++ attributes_from (next + 1) rest ≡ all
from-step attrs new all next left rest left_is is added =
    ap (λ (ns : List ℕ). ns ++ attributes_from (next + 1) rest) added ∙ append_assoc attrs (view_attributes next) (attributes_from (next + 1) rest)
    ∙ subst (λ (k : ℕ). attrs ++ attributes_from next k ≡ all) left_is is

pub from-done : (attrs all : List ℕ) (next left : ℕ) → left ≡ 0 → attrs ++ attributes_from next left ≡ all → attrs ≡ all
from-done attrs all next left none is = sym (append-nil attrs) ∙ subst (λ (k : ℕ). attrs ++ attributes_from next k ≡ all) none is

-- one view's rows more
pub rows-step : (rows one new all : List Row) (w h : Row) (first next left rest : ℕ) → left ≡ suc rest → rows ++ rows_of_views first next left ≡ all
    → w ≡ required_row first (4 * next + 3) Ge zero_fraction → h ≡ required_row (first + 1) (4 * next + 4) Ge zero_fraction → one ≡ rows ++ w ∷ [] → new ≡ one ++ h ∷ []
    → new ++ rows_of_views (first + 2) (next + 1) rest ≡ all
rows-step rows one new all w h first next left rest left_is is w_is h_is one_is new_is =
    let both : new ≡ rows ++ view_rows first next =
    new_is ∙ ap (λ (rs : List Row). rs ++ h ∷ []) one_is ∙ append_assoc rows (w ∷ []) (h ∷ []) ∙ ap₂ (λ (r s : Row). rows ++ (r ∷ s ∷ [])) w_is h_is in
    ap (λ (rs : List Row). rs ++ rows_of_views (first + 2) (next + 1) rest) both ∙ append_assoc rows (view_rows first next) (rows_of_views (first + 2) (next + 1) rest)
    ∙ subst (λ (k : ℕ). rows ++ rows_of_views first next k ≡ all) left_is is

pub rows-done : (rows all : List Row) (first next left : ℕ) → left ≡ 0 → rows ++ rows_of_views first next left ≡ all → rows ≡ all
rows-done rows all first next left none is = sym (append-nil rows) ∙ subst (λ (k : ℕ). rows ++ rows_of_views first next k ≡ all) none is

-- one view more
pub items-step : (items new all : List Item) (first next left rest : ℕ) → left ≡ suc rest → items ++ view_items first next left ≡ all → new ≡ items ++ OfView first next ∷ [] → new ++ view_items (first + 2) (next + 1) rest ≡ all
items-step items new all first next left rest left_is is added =
    ap (λ (xs : List Item). xs ++ view_items (first + 2) (next + 1) rest) added ∙ append_assoc items (OfView first next ∷ []) (view_items (first + 2) (next + 1) rest)
    ∙ subst (λ (k : ℕ). items ++ view_items first next k ≡ all) left_is is

pub items-done : (items all : List Item) (first next left : ℕ) → left ≡ 0 → items ++ view_items first next left ≡ all → items ≡ all
items-done items all first next left none is = sym (append-nil items) ∙ subst (λ (k : ℕ). items ++ view_items first next k ≡ all) none is
