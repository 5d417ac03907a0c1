-- A draft of a definite scene is definite.
use Rattle.std.proofs.Common.{◌≡◌, ℕ, zero, suc, ◌+◌, ◌<◌, Bool, true, false, cond, not, List, [], ◌∷◌, ◌++◌, Option, None, Some, All, is_some, refl, sym, subst, arith}
use Rattle.std.specs.Option.{option_map}
use Rattle.std.specs.Str.{bytes_eq}
use Rattle.std.proofs.lemmas.List.{map_push}
use Rattle.std.proofs.lemmas.List.Elements.{All-append, All-cons, All-filter, All-head, All-nil, All-push, All-tail, All-weaker}
use Rattle.std.proofs.lemmas.Map.Views.{All-values-set_value}
use Rattle.std.proofs.lemmas.Option.{none-some, same_Some}
use Rattle.frac_core.specs.Fraction.{Fraction}
use Rattle.name_tables.specs.Names.{names_of, place_of, values_of, with_value}
use Rattle.view_tree.specs.Drops.{is_among}
use Rattle.view_tree.specs.JsonTrees.{Branch, Branches, branch, more, no_branches, size, size_in, views_in, views_of}
use Rattle.view_tree.specs.Views.{LiveView, view_named}
use Rattle.compile_parts.specs.Meaning.{MetricList}
use Rattle.constraint_compile.specs.Compiled.{CompiledLine}
use Rattle.constraint_compile.specs.declared.suggestion.Suggestion.{Suggestion}
use Rattle.script_text.specs.declared.words.AttrWord.{AttrWord}
use Rattle.script_text.specs.declared.words.Direction.{Direction}
use Rattle.held_items.specs.Items.{Intrinsic, Item, OfLine, OfView, OfWindow, Sized, Suggested, has_size, is_intrinsic, is_size, is_suggestion, replaced, sized, view_items, with_constant, with_size}
use Rattle.held_items.specs.Leaving.{goes_with}
use Rattle.held_items.specs.declared.item.intrinsic.IntrinsicSize.{IntrinsicSize}
use Rattle.held_items.specs.declared.row_numbers.TheConstants.{VIEW_ROWS}
use Rattle.scenes.specs.Leaving.{without_items, without_views}
use Rattle.scenes.specs.Scene.{Scene, held_with_size, metrics_with, with_branch, with_direction, with_intrinsic, with_kept, with_line, with_metric, with_preferred, with_suggested, with_suggestion, with_view, with_window}
use Rattle.session_laws.specs.Posed.Definite.{AreDefinite, IsDefinite, IsDefiniteForm, IsDefiniteItem}

-- ---- items

-- with another in place of the first of a kind
replaced-definite : (is : Item → Bool) (other : Item → Item) → ((x : Item) → IsDefiniteItem x → IsDefiniteItem (other x)) → (held : List Item) → All IsDefiniteItem held → All IsDefiniteItem (replaced is other held)
replaced-definite is other kept [] all = all
replaced-definite is other kept (x ∷ held) all = by (is x) (replaced-definite is other kept held (All-tail IsDefiniteItem x held all))
  where
    by : (b : Bool) → All IsDefiniteItem (replaced is other held) → All IsDefiniteItem (cond b (other x ∷ held) (x ∷ replaced is other held))
    by true rest = All-cons IsDefiniteItem (other x) held (kept x (All-head IsDefiniteItem x held all)) (All-tail IsDefiniteItem x held all)
    by false rest = All-cons IsDefiniteItem x (replaced is other held) (All-head IsDefiniteItem x held all) rest

sized-definite : (width height : Fraction) (x : Item) → IsDefiniteItem x → IsDefiniteItem (sized width height x)
sized-definite width height OfWindow is = is
sized-definite width height (OfView first_row id) is = is
sized-definite width height (Sized first_row w h) is = is
sized-definite width height (OfLine group line) is = is
sized-definite width height (Suggested s) is = is
sized-definite width height (Intrinsic s) is = is

constant-definite : (c : Fraction) (x : Item) → IsDefiniteItem x → IsDefiniteItem (with_constant c x)
constant-definite c OfWindow is = is
constant-definite c (OfView first_row id) is = is
constant-definite c (Sized first_row w h) is = is
constant-definite c (OfLine group line) is = is
constant-definite c (Suggested s) is = is
constant-definite c (Intrinsic s) is = is

wish-definite : (width height : Fraction) (x : Item) → IsDefiniteItem x → IsDefiniteItem (with_size width height x)
wish-definite width height OfWindow is = is
wish-definite width height (OfView first_row id) is = is
wish-definite width height (Sized first_row w h) is = is
wish-definite width height (OfLine group line) is = is
wish-definite width height (Suggested s) is = is
wish-definite width height (Intrinsic s) is = is

views-definite : (row id count : ℕ) → All IsDefiniteItem (view_items row id count)
views-definite row id zero = All-nil IsDefiniteItem
views-definite row id (suc count) = All-cons IsDefiniteItem (OfView row id) (view_items (row + VIEW_ROWS) (id + 1) count) tt (views-definite (row + VIEW_ROWS) (id + 1) count)

size-definite : (b : Bool) (n : ℕ) (width height : Fraction) (held : List Item) → All IsDefiniteItem held → All IsDefiniteItem (held_with_size b n width height held)
size-definite false n width height held all = All-push IsDefiniteItem held (Sized n width height) all tt
size-definite true n width height held all = replaced-definite is_size (sized width height) (sized-definite width height) held all

-- ---- metrics

metric-definite : (metrics : MetricList) (name : List ℕ) (value : Fraction) → AreDefinite metrics → 0 < value.den → AreDefinite (metrics_with metrics name value)
metric-definite metrics name value definite above = by (is_some (place_of (names_of metrics) name))
  where
    by : (b : Bool) → AreDefinite (cond b (with_value metrics name value) (metrics ++ (name, value) ∷ []))
    by true = All-values-set_value (bytes_eq name) (λ (f : Fraction). 0 < f.den) metrics value definite above
    by false =
        subst (All (λ (f : Fraction). 0 < f.den)) (sym (map_push (λ (e : List ℕ × Fraction). e.1) metrics (name, value)))
        (All-push (λ (f : Fraction). 0 < f.den) (values_of metrics) value definite above)

-- ---- views

-- a view that is found has a number below the bound
pub named-below : (views : List LiveView) (name : List ℕ) (v : LiveView) (n : ℕ) → All (λ w. w.id < n) views → view_named views name ≡ Some v → v.id < n
named-below [] name v n all found = absurd (none-some v found)
named-below (w ∷ views) name v n all found = by (named-below views name v n (All-tail (λ (u : LiveView). u.id < n) w views all)) (bytes_eq name w.name) found
  where
    by : (view_named views name ≡ Some v → v.id < n) → (b : Bool) → cond b (Some w) (view_named views name) ≡ Some v → v.id < n
    by rest true here = subst (λ (u : LiveView). u.id < n) (same_Some w v here) (All-head (λ (u : LiveView). u.id < n) w views all)
    by rest false later = rest later

pub number-below : (o : Option LiveView) (parent n : ℕ) → ((v : LiveView) → o ≡ Some v → v.id < n) → option_map (λ v. v.id) o ≡ Some parent → parent < n
number-below None parent n below is = absurd (none-some parent is)
number-below (Some v) parent n below is = subst (λ (k : ℕ). k < n) (same_Some v.id parent is) (below v refl)

-- it is newer than its parent
abbrev IsYoung : LiveView → Type 0
IsYoung v = (parent : ℕ) → v.parent ≡ Some parent → parent < v.id

young : (id parent : ℕ) (p : ℕ) → parent < id → Some parent ≡ Some p → p < id
young id parent p less is = subst (λ (n : ℕ). n < id) (same_Some parent p is) less

grown : (m n : ℕ) (views : List LiveView) → ((k : ℕ) → k < m → k < n) → All (λ v. v.id < m) views → All (λ v. v.id < n) views
grown m n views up all = All-weaker (λ (v : LiveView). v.id < m) (λ (v : LiveView). v.id < n) (λ v less. up v.id less) views all

mutual
  branch-below : (next parent : ℕ) (b : Branch) → All (λ v. v.id < next + size b) (views_of next parent b)
  branch-below next parent (branch name inner) =
      All-cons (λ (v : LiveView). v.id < next + suc (size_in inner)) (record { id = next; name = name; parent = Some parent }) (views_in (next + 1) next inner) (omega arith)
      (grown (next + 1 + size_in inner) (next + suc (size_in inner)) (views_in (next + 1) next inner) (λ k less. omega (arith, less)) (branches-below (next + 1) next inner))

  branches-below : (next parent : ℕ) (bs : Branches) → All (λ v. v.id < next + size_in bs) (views_in next parent bs)
  branches-below next parent no_branches = All-nil (λ (v : LiveView). v.id < next + 0)
  branches-below next parent (more b bs) =
      All-append (λ (v : LiveView). v.id < next + (size b + size_in bs)) (views_of next parent b) (views_in (next + size b) parent bs)
      (grown (next + size b) (next + (size b + size_in bs)) (views_of next parent b) (λ k less. omega (arith, less)) (branch-below next parent b))
      (grown (next + size b + size_in bs) (next + (size b + size_in bs)) (views_in (next + size b) parent bs) (λ k less. omega (arith, less)) (branches-below (next + size b) parent bs))

mutual
  branch-young : (next parent : ℕ) (b : Branch) → parent < next → All IsYoung (views_of next parent b)
  branch-young next parent (branch name inner) less =
      All-cons IsYoung (record { id = next; name = name; parent = Some parent }) (views_in (next + 1) next inner) (λ p is. young next parent p less is)
      (branches-young (next + 1) next inner (omega arith))

  branches-young : (next parent : ℕ) (bs : Branches) → parent < next → All IsYoung (views_in next parent bs)
  branches-young next parent no_branches less = All-nil IsYoung
  branches-young next parent (more b bs) less =
      All-append IsYoung (views_of next parent b) (views_in (next + size b) parent bs) (branch-young next parent b less)
      (branches-young (next + size b) parent bs (omega (arith, less)))

-- ---- drafts

module _ (old : Scene) (is : IsDefinite old) where
  pub view-definite : (name : List ℕ) (parent : ℕ) → parent < old.tree.next → IsDefinite (with_view old name parent)
  view-definite name parent less = record {
    metrics = is.metrics;
    held = All-push IsDefiniteItem old.held (OfView old.next_row old.tree.next) is.held tt;
    below = All-push (λ (v : LiveView). v.id < old.tree.next + 1) old.tree.views (record { id = old.tree.next; name = name; parent = Some parent })
        (grown old.tree.next (old.tree.next + 1) old.tree.views (λ k lower. omega (arith, lower)) is.below) (omega arith);
    older = All-push IsYoung old.tree.views (record { id = old.tree.next; name = name; parent = Some parent }) is.older (λ p e. young old.tree.next parent p less e);
  }

  pub branch-definite : (parent : ℕ) (b : Branch) → parent < old.tree.next → IsDefinite (with_branch old parent b)
  branch-definite parent b less = record {
    metrics = is.metrics;
    held = All-append IsDefiniteItem old.held (view_items old.next_row old.tree.next (size b)) is.held (views-definite old.next_row old.tree.next (size b));
    below = All-append (λ (v : LiveView). v.id < old.tree.next + size b) old.tree.views (views_of old.tree.next parent b)
        (grown old.tree.next (old.tree.next + size b) old.tree.views (λ k lower. omega (arith, lower)) is.below) (branch-below old.tree.next parent b);
    older = All-append IsYoung old.tree.views (views_of old.tree.next parent b) is.older (branch-young old.tree.next parent b less);
  }

  pub metrics-definite : (name : List ℕ) (value : Fraction) → 0 < value.den → IsDefinite (with_metric old name value)
  metrics-definite name value above = record { metrics = metric-definite old.metrics name value is.metrics above; held = is.held; below = is.below; older = is.older }

  pub window-definite : (width height : Fraction) → IsDefinite (with_window old width height)
  window-definite width height = record { metrics = is.metrics; held = size-definite (has_size old.held) old.next_row width height old.held is.held; below = is.below; older = is.older }

  pub line-definite : (group : List ℕ) (line : CompiledLine) → All IsDefiniteForm line.rows → IsDefinite (with_line old group line)
  line-definite group line all = record { metrics = is.metrics; held = All-push IsDefiniteItem old.held (OfLine group line) is.held all; below = is.below; older = is.older }

  pub suggestion-definite : (s : Suggestion) → IsDefinite (with_suggestion old s)
  suggestion-definite s = record { metrics = is.metrics; held = All-push IsDefiniteItem old.held (Suggested s) is.held tt; below = is.below; older = is.older }

  pub suggested-definite : (view : ℕ) (attr : AttrWord) (c : Fraction) → IsDefinite (with_suggested old view attr c)
  suggested-definite view attr c = record { metrics = is.metrics; held = replaced-definite (is_suggestion view attr) (with_constant c) (constant-definite c) old.held is.held; below = is.below; older = is.older }

  pub intrinsic-definite : (s : IntrinsicSize) → IsDefinite (with_intrinsic old s)
  intrinsic-definite s = record { metrics = is.metrics; held = All-push IsDefiniteItem old.held (Intrinsic s) is.held tt; below = is.below; older = is.older }

  pub preferred-definite : (view : ℕ) (width height : Fraction) → IsDefinite (with_preferred old view width height)
  preferred-definite view width height = record { metrics = is.metrics; held = replaced-definite (is_intrinsic view) (with_size width height) (wish-definite width height) old.held is.held; below = is.below; older = is.older }

  pub turned-definite : (to : Direction) → IsDefinite (with_direction old to)
  turned-definite to = record { metrics = is.metrics; held = is.held; below = is.below; older = is.older }

  pub kept-definite : (view : ℕ) → IsDefinite (with_kept old view)
  kept-definite view = record { metrics = is.metrics; held = is.held; below = is.below; older = is.older }

  pub less-definite : (goes : Item → Bool) → IsDefinite (without_items old goes)
  less-definite goes = record { metrics = is.metrics; held = All-filter (λ (x : Item). not (goes x)) IsDefiniteItem old.held is.held; below = is.below; older = is.older }

  pub dropped-definite : (gone : List ℕ) → IsDefinite (without_views old gone)
  dropped-definite gone = record {
    metrics = is.metrics;
    held = All-filter (λ (x : Item). not (goes_with gone x)) IsDefiniteItem old.held is.held;
    below = All-filter (λ (v : LiveView). not (is_among gone v.id)) (λ (v : LiveView). v.id < old.tree.next) old.tree.views is.below;
    older = All-filter (λ (v : LiveView). not (is_among gone v.id)) IsYoung old.tree.views is.older;
  }
