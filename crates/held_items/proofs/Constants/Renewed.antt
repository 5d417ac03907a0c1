-- What is held with other constants, and its rows: alike but for these, and as near as these are.
use Rattle.std.proofs.Common.{◌≡◌, ◌∙◌, ℕ, ◌+◌, ◌<◌, Bool, true, false, cond, Option, Some, List, [], ◌∷◌, ◌++◌, map, refl, sym, ap, subst, arith, All, AllPairs, inr}
use Rattle.std.specs.List.{AllZip, AllByRecursion as Each}
use Rattle.std.proofs.lemmas.Option.{none-some, same_Some}
use Rattle.std.proofs.lemmas.List.{append-nil, map-append}
use Rattle.std.proofs.lemmas.List.Elements.{All-from_recursion, recursion_from_All}
use Rattle.frac_core.specs.Fraction.{Fraction}
use Rattle.frac_core.proofs.Lists.{pairs-nil, zip-length}
use Rattle.problem_core.specs.Layout.{Row, Problem}
use Rattle.problem_core.specs.Kept.{IsWhole}
use Rattle.problem_core.specs.Unfit.{without_constant}
use Rattle.view_tree.specs.Views.{LiveView}
use Rattle.compile_parts.specs.Meaning.{MetricList}
use Rattle.constraint_compile.specs.Suggestions.{suggested_row}
use Rattle.constraint_compile.specs.declared.suggestion.Suggestion.{Suggestion}
use Rattle.layout_solver.specs.declared.engine.Change.{Change}
use Rattle.layout_solver.specs.Shifts.{AreKept, CanShift, shifted}
use Rattle.held_items.specs.declared.item.intrinsic.IntrinsicSize.{IntrinsicSize}
use Rattle.held_items.specs.declared.item.renewing.Renewal.{Renewal}
use Rattle.held_items.specs.declared.item.renewing.Renewal.TheVariants as renewal
use Rattle.held_items.specs.Items.{Item, Size, OfWindow, OfView, Sized, OfLine, Suggested, Intrinsic, AreItemRows, AreRows, first_of, replaced}
use Rattle.held_items.specs.Items.{is_size, is_suggestion, is_intrinsic, own_size, own_suggestion, own_intrinsic, size_of, suggestion_of, intrinsic_of}
use Rattle.held_items.specs.Items.{sized, with_constant, with_size, size_rows, intrinsic_rows, intrinsic_changes}
use Rattle.held_items.specs.Kept.{IsItem, IsNamed, changes_of, is_renewed, renewed, renewed_by}
use Rattle.held_items.specs.Moving.{FitsAfter, IsNear, size_changes}
use Rattle.held_items.proofs.Lists.{four-rising, pairs-cons}
use Rattle.held_items.proofs.FirstItems.{all-replaced}
use Rattle.held_items.proofs.Constants.ConstantChanges.{AreChanges, above-after, change, changes-append, changes-can, changes-none, changes-rows}
use Rattle.held_items.proofs.Constants.MovedRows.{zip-at, zip-joined}
use Rattle.held_items.proofs.Constants.Nears.{still-near}

-- ---- rows with other constants

-- other rows that are so, to which the changes lead; they are alike but for constants, and near where these are
record AreRenewed (Are : List Row → Type 0) (Near : Type 0) (rows : List Row) (to : List Change) : Type 0 where
  after : List Row
  are : Are after
  changes : AreChanges rows after to
  alike : map without_constant after ≡ map without_constant rows
  near : Near → AllZip IsNear rows after

rows-still : (rows : List Row) → AllZip IsNear rows rows
rows-still [] = tt
rows-still (r ∷ rows) = (still-near r.constant r.constant refl, rows-still rows)

module _ (to : List Change) (front back : List Row) where
  -- the rows in front get the constants
  front-renewed : (Are Joined : List Row → Type 0) (Near : Type 0) → ((rows : List Row) → Are rows → Joined (rows ++ back)) → AreRenewed Are Near front to → AreRenewed Joined Near (front ++ back) to
  front-renewed Are Joined Near join one = record {
    after = one.after ++ back;
    are = join one.after one.are;
    changes = subst (AreChanges (front ++ back) (one.after ++ back)) (append-nil to) (changes-append front one.after back back to [] one.changes (changes-none back));
    alike = map-append without_constant one.after back ∙ ap (λ (rows : List Row). rows ++ map without_constant back) one.alike ∙ sym (map-append without_constant front back);
    near = λ near. zip-joined IsNear front back one.after back (one.near near) (rows-still back);
  }

  -- those behind get them
  back-renewed : (Are Joined : List Row → Type 0) (Near : Type 0) → ((rows : List Row) → Are rows → Joined (front ++ rows)) → AreRenewed Are Near back to → AreRenewed Joined Near (front ++ back) to
  back-renewed Are Joined Near join more = record {
    after = front ++ more.after;
    are = join more.after more.are;
    changes = changes-append front front back more.after [] to (changes-none front) more.changes;
    alike = map-append without_constant front more.after ∙ ap (λ (rows : List Row). map without_constant front ++ rows) more.alike ∙ sym (map-append without_constant front back);
    near = λ near. zip-joined IsNear front back front more.after (rows-still front) (more.near near);
  }

-- ---- what is held with another in place of the first of a kind

module _ {A : Type 0} (is : Item → Bool) (own : Item → Option A) (other : Item → Item) (before : A) (ms : MetricList) (Near : Type 0) (to : List Change)
    (here : (item : Item) (rows : List Row) → own item ≡ Some before → AreItemRows ms item rows → AreRenewed (AreItemRows ms (other item)) Near rows to) where
  all-renewed : (held : List Item) (rows : List Row) → AreRows ms held rows → first_of is own held ≡ Some before → AreRenewed (AreRows ms (replaced is other held)) Near rows to
  all-renewed [] rows are found = absurd (none-some before found)
  all-renewed (item ∷ held) rows (front, back, joined, first, rest) found =
      subst (λ (rs : List Row). AreRenewed (AreRows ms (replaced is other (item ∷ held))) Near rs to) (sym joined) (by (is item) found (all-renewed held back rest))
    where
      by : (b : Bool) → cond b (own item) (first_of is own held) ≡ Some before → (first_of is own held ≡ Some before → AreRenewed (AreRows ms (replaced is other held)) Near back to)
          → AreRenewed (AreRows ms (cond b (other item ∷ held) (item ∷ replaced is other held))) Near (front ++ back) to
      by true h later = front-renewed to front back (AreItemRows ms (other item)) (AreRows ms (other item ∷ held)) Near (λ rs are. (rs, back, refl, are, rest)) (here item front h first)
      by false h later = back-renewed to front back (AreRows ms (replaced is other held)) (AreRows ms (item ∷ replaced is other held)) Near (λ rs are. (front, rs, refl, first, are)) (later h)

-- ---- the window's size

module _ (ms : MetricList) (w h : Fraction) (before : Size) where
  size-renewed : (item : Item) (rows : List Row) → own_size item ≡ Some before → AreItemRows ms item rows
      → AreRenewed (AreItemRows ms (sized w h item)) (FitsAfter before.width w × FitsAfter before.height h) rows (size_changes before.first_row w h)
  size-renewed OfWindow rows found are = absurd (none-some before found)
  size-renewed (OfView first id) rows found are = absurd (none-some before found)
  size-renewed (OfLine group line) rows found are = absurd (none-some before found)
  size-renewed (Suggested s) rows found are = absurd (none-some before found)
  size-renewed (Intrinsic s) rows found are = absurd (none-some before found)
  size-renewed (Sized n x y) rows found are =
      subst (λ (s : Size). AreRenewed (AreItemRows ms (Sized n w h)) (FitsAfter s.width w × FitsAfter s.height h) rows (size_changes s.first_row w h)) (same_Some (record { first_row = n; width = x; height = y }) before found)
      (subst (λ (rs : List Row). AreRenewed (AreItemRows ms (Sized n w h)) (FitsAfter x w × FitsAfter y h) rs (size_changes n w h)) (sym are) (record {
        after = size_rows n w h;
        are = refl;
        changes = inr (change (n + 1) h ∷ [], refl, inr ([], refl, refl));
        alike = refl;
        near = λ near. (near.0, (near.1, tt));
      }))

-- ---- a suggestion

module _ (ms : MetricList) (constant : Fraction) (before : Suggestion) where
  suggestion-renewed : (item : Item) (rows : List Row) → own_suggestion item ≡ Some before → AreItemRows ms item rows
      → AreRenewed (AreItemRows ms (with_constant constant item)) (FitsAfter before.constant constant) rows (change before.row constant ∷ [])
  suggestion-renewed OfWindow rows found are = absurd (none-some before found)
  suggestion-renewed (OfView first id) rows found are = absurd (none-some before found)
  suggestion-renewed (Sized n w h) rows found are = absurd (none-some before found)
  suggestion-renewed (OfLine group line) rows found are = absurd (none-some before found)
  suggestion-renewed (Intrinsic s) rows found are = absurd (none-some before found)
  suggestion-renewed (Suggested s) rows found are =
      subst (λ (t : Suggestion). AreRenewed (AreItemRows ms (Suggested (record s { constant = constant }))) (FitsAfter t.constant constant) rows (change t.row constant ∷ [])) (same_Some s before found)
      (subst (λ (rs : List Row). AreRenewed (AreItemRows ms (Suggested (record s { constant = constant }))) (FitsAfter s.constant constant) rs (change s.row constant ∷ [])) (sym are) (record {
        after = suggested_row (record s { constant = constant }) ∷ [];
        are = refl;
        changes = inr ([], refl, refl);
        alike = refl;
        near = λ near. (near, tt);
      }))

-- ---- the size of a view

three-on : (n : ℕ) → n + 3 ≡ n + 2 + 1
three-on n = omega arith

module _ (ms : MetricList) (w h : Fraction) (before : IntrinsicSize) where
  intrinsic-renewed : (item : Item) (rows : List Row) → own_intrinsic item ≡ Some before → AreItemRows ms item rows
      → AreRenewed (AreItemRows ms (with_size w h item)) (FitsAfter before.width w × FitsAfter before.height h) rows (intrinsic_changes (record before { width = w; height = h }))
  intrinsic-renewed OfWindow rows found are = absurd (none-some before found)
  intrinsic-renewed (OfView first id) rows found are = absurd (none-some before found)
  intrinsic-renewed (Sized n x y) rows found are = absurd (none-some before found)
  intrinsic-renewed (OfLine group line) rows found are = absurd (none-some before found)
  intrinsic-renewed (Suggested s) rows found are = absurd (none-some before found)
  intrinsic-renewed (Intrinsic s) rows found are =
      subst (λ (t : IntrinsicSize). AreRenewed (AreItemRows ms (Intrinsic (record s { width = w; height = h }))) (FitsAfter t.width w × FitsAfter t.height h) rows (intrinsic_changes (record t { width = w; height = h }))) (same_Some s before found)
      (subst (λ (rs : List Row). AreRenewed (AreItemRows ms (Intrinsic (record s { width = w; height = h }))) (FitsAfter s.width w × FitsAfter s.height h) rs (intrinsic_changes (record s { width = w; height = h }))) (sym are) (record {
        after = intrinsic_rows (record s { width = w; height = h });
        are = refl;
        changes = inr (_, refl, inr (_, refl, inr (_, refl, inr ([], ap (λ (n : ℕ). change n h ∷ []) (three-on s.first_row), refl))));
        alike = refl;
        near = λ near. (near.0, (near.0, (near.1, (near.1, tt))));
      }))

-- ---- all three

-- what gets other constants is held, with rows of these numbers
abbrev pub IsHeldFor : List Item → Renewal → Type 0
IsHeldFor held (renewal.Size to) = (before : Size) × (size_of held ≡ Some before) × (to.first_row ≡ before.first_row)
IsHeldFor held (renewal.Suggestion again) = (before : Suggestion) × (suggestion_of again.view again.word held ≡ Some before) × (again.row ≡ before.row)
IsHeldFor held (renewal.Intrinsic again) = (before : IntrinsicSize) × (intrinsic_of again.view held ≡ Some before) × (again.first_row ≡ before.first_row)

-- no constant moves too far
abbrev pub IsNearFor : (held : List Item) (r : Renewal) → IsHeldFor held r → Type 0
IsNearFor held (renewal.Size to) is = FitsAfter is.0.width to.size.width × FitsAfter is.0.height to.size.height
IsNearFor held (renewal.Suggestion again) is = FitsAfter is.0.constant again.constant
IsNearFor held (renewal.Intrinsic again) is = FitsAfter is.0.width again.width × FitsAfter is.0.height again.height

module _ (ms : MetricList) (held : List Item) (rows : List Row) (are : AreRows ms held rows) where
  rows-renewed : (r : Renewal) (is : IsHeldFor held r) → AreRenewed (AreRows ms (renewed_by r held)) (IsNearFor held r is) rows (changes_of r)
  rows-renewed (renewal.Size to) (before, found, row) =
      let w = to.size.width in
      let h = to.size.height in
      subst (λ (n : ℕ). AreRenewed (AreRows ms (renewed_by (renewal.Size to) held)) (FitsAfter before.width w × FitsAfter before.height h) rows (size_changes n w h)) (sym row)
      (all-renewed is_size own_size (sized w h) before ms (FitsAfter before.width w × FitsAfter before.height h) (size_changes before.first_row w h) (size-renewed ms w h before) held rows are found)
  rows-renewed (renewal.Suggestion again) (before, found, row) =
      subst (λ (n : ℕ). AreRenewed (AreRows ms (renewed_by (renewal.Suggestion again) held)) (FitsAfter before.constant again.constant) rows (change n again.constant ∷ [])) (sym row)
      (all-renewed (is_suggestion again.view again.word) own_suggestion (with_constant again.constant) before ms (FitsAfter before.constant again.constant) (change before.row again.constant ∷ []) (suggestion-renewed ms again.constant before) held rows are found)
  rows-renewed (renewal.Intrinsic again) (before, found, row) =
      let w = again.width in
      let h = again.height in
      subst (λ (n : ℕ). AreRenewed (AreRows ms (renewed_by (renewal.Intrinsic again) held)) (FitsAfter before.width w × FitsAfter before.height h) rows (intrinsic_changes (record before { first_row = n; width = w; height = h }))) (sym row)
      (all-renewed (is_intrinsic again.view) own_intrinsic (with_size w h) before ms (FitsAfter before.width w × FitsAfter before.height h) (intrinsic_changes (record before { width = w; height = h })) (intrinsic-renewed ms w h before) held rows are found)

  -- the rows of what is held with other constants are those before with these
  pub shifted-renewed : (r : Renewal) → IsHeldFor held r → AllPairs (λ a b. a.id < b.id) rows → AreRows ms (renewed_by r held) (shifted (changes_of r) rows)
  shifted-renewed r is rising =
      let a : AreRenewed (AreRows ms (renewed_by r held)) (IsNearFor held r is) rows (changes_of r) = rows-renewed r is in
      subst (AreRows ms (renewed_by r held)) (sym (changes-rows rows a.after (changes_of r) a.changes a.alike rising)) a.are

-- the numbers of the rows that get other constants rise
pub renewed-rising : (r : Renewal) → AllPairs (λ a b. a.row < b.row) (changes_of r)
renewed-rising (renewal.Size to) =
    pairs-cons (λ (a b : Change). a.row < b.row) (change to.first_row to.size.width) (change (to.first_row + 1) to.size.height ∷ [])
    (All-from_recursion (λ (b : Change). to.first_row < b.row) (change (to.first_row + 1) to.size.height ∷ []) (omega arith, tt))
    (pairs-cons (λ (a b : Change). a.row < b.row) (change (to.first_row + 1) to.size.height) [] (All-from_recursion (λ (b : Change). to.first_row + 1 < b.row) [] tt) (pairs-nil (λ (a b : Change). a.row < b.row)))
renewed-rising (renewal.Suggestion again) =
    pairs-cons (λ (a b : Change). a.row < b.row) (change again.row again.constant) [] (All-from_recursion (λ (b : Change). again.row < b.row) [] tt) (pairs-nil (λ (a b : Change). a.row < b.row))
renewed-rising (renewal.Intrinsic again) =
    four-rising (λ (c : Change). c.row) (change again.first_row again.width) (change (again.first_row + 1) again.width) (change (again.first_row + 2) again.height) (change (again.first_row + 3) again.height)
    (omega arith) (omega arith) (omega arith)

-- ---- the constants may change

pub can-renew : (ms : MetricList) (held : List Item) (p : Problem) (r : Renewal) (is : IsHeldFor held r) → IsNearFor held r is → AreRows ms held p.rows → IsWhole p → AreKept (changes_of r) → CanShift p (changes_of r)
can-renew ms held p r is near are whole kept =
    let a : AreRenewed (AreRows ms (renewed_by r held)) (IsNearFor held r is) p.rows (changes_of r) = rows-renewed ms held p.rows are r is in
    let zipped : AllZip IsNear p.rows a.after = a.near near in
    let of_rows : All (λ (r : Row). 0 < r.constant.den) p.rows = λ k d within. (whole.rows k d within).constant.lowest.above in
    let of_to : Each (λ (c : Change). 0 < c.constant.den) (changes_of r) = recursion_from_All (λ (c : Change). 0 < c.constant.den) (changes_of r) (λ k d within. (kept k d within).lowest.above) in
    changes-can p p.rows a.after (changes_of r) refl a.changes whole.rising
    (record { long = zip-length IsNear p.rows a.after zipped; each = zip-at IsNear p.rows a.after zipped })
    of_rows
    (All-from_recursion (λ (r : Row). 0 < r.constant.den) a.after
    (above-after p.rows a.after (changes_of r) a.changes (recursion_from_All (λ (r : Row). 0 < r.constant.den) p.rows of_rows) of_to))

-- ---- what is kept

renewed-IsItem : (r : Renewal) (item : Item) → IsItem item → IsItem (renewed r item)
renewed-IsItem (renewal.Size to) OfWindow is = is
renewed-IsItem (renewal.Size to) (OfView first id) is = is
renewed-IsItem (renewal.Size to) (Sized first width height) is = is
renewed-IsItem (renewal.Size to) (OfLine group line) is = is
renewed-IsItem (renewal.Size to) (Suggested s) is = is
renewed-IsItem (renewal.Size to) (Intrinsic s) is = is
renewed-IsItem (renewal.Suggestion again) OfWindow is = is
renewed-IsItem (renewal.Suggestion again) (OfView first id) is = is
renewed-IsItem (renewal.Suggestion again) (Sized first width height) is = is
renewed-IsItem (renewal.Suggestion again) (OfLine group line) is = is
renewed-IsItem (renewal.Suggestion again) (Suggested s) is = record { row = is.row; rank = is.rank; view = is.view }
renewed-IsItem (renewal.Suggestion again) (Intrinsic s) is = is
renewed-IsItem (renewal.Intrinsic again) OfWindow is = is
renewed-IsItem (renewal.Intrinsic again) (OfView first id) is = is
renewed-IsItem (renewal.Intrinsic again) (Sized first width height) is = is
renewed-IsItem (renewal.Intrinsic again) (OfLine group line) is = is
renewed-IsItem (renewal.Intrinsic again) (Suggested s) is = is
renewed-IsItem (renewal.Intrinsic again) (Intrinsic s) is = record { above = is.above; below = is.below; view = is.view; resist = is.resist; hug = is.hug }

renewed-IsNamed : (views : List LiveView) (r : Renewal) (item : Item) → IsNamed views item → IsNamed views (renewed r item)
renewed-IsNamed views (renewal.Size to) OfWindow is = is
renewed-IsNamed views (renewal.Size to) (OfView first id) is = is
renewed-IsNamed views (renewal.Size to) (Sized first width height) is = is
renewed-IsNamed views (renewal.Size to) (OfLine group line) is = is
renewed-IsNamed views (renewal.Size to) (Suggested s) is = is
renewed-IsNamed views (renewal.Size to) (Intrinsic s) is = is
renewed-IsNamed views (renewal.Suggestion again) OfWindow is = is
renewed-IsNamed views (renewal.Suggestion again) (OfView first id) is = is
renewed-IsNamed views (renewal.Suggestion again) (Sized first width height) is = is
renewed-IsNamed views (renewal.Suggestion again) (OfLine group line) is = is
renewed-IsNamed views (renewal.Suggestion again) (Suggested s) is = is
renewed-IsNamed views (renewal.Suggestion again) (Intrinsic s) is = is
renewed-IsNamed views (renewal.Intrinsic again) OfWindow is = is
renewed-IsNamed views (renewal.Intrinsic again) (OfView first id) is = is
renewed-IsNamed views (renewal.Intrinsic again) (Sized first width height) is = is
renewed-IsNamed views (renewal.Intrinsic again) (OfLine group line) is = is
renewed-IsNamed views (renewal.Intrinsic again) (Suggested s) is = is
renewed-IsNamed views (renewal.Intrinsic again) (Intrinsic s) is = is

pub all-renewed-IsItem : (r : Renewal) (held : List Item) → All IsItem held → All IsItem (renewed_by r held)
all-renewed-IsItem r held all = all-replaced (is_renewed r) IsItem (renewed r) (renewed-IsItem r) held all

pub all-renewed-IsNamed : (views : List LiveView) (r : Renewal) (held : List Item) → All (IsNamed views) held → All (IsNamed views) (renewed_by r held)
all-renewed-IsNamed views r held all = all-replaced (is_renewed r) (IsNamed views) (renewed r) (renewed-IsNamed views r) held all
