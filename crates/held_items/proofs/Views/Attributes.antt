-- The attributes of views.
use Rattle.std.proofs.Common.{◌≡◌, ℕ, zero, suc, ◌+◌, ◌*◌, ◌^◌, ◌<◌, ◌≤◌, List, [], ◌∷◌, ◌++◌, length, map, append_assoc, Some, refl, sym, ap, subst, ◌∙◌, arith, All, AllPairs, IsPermutation}
use Rattle.std.specs.List.{Contains, slice_get, AllByRecursion as Each}
use Rattle.std.proofs.lemmas.Option.{none-some, same_Some}
use Rattle.std.proofs.lemmas.List.Elements.{recursion_from_All, All-from_recursion, All-weaker, Contains-append_left}
use Rattle.std.proofs.lemmas.List.Sorted.{All-permutation}
use Rattle.problem_core.specs.declared.parts.Stay.{Stay}
use Rattle.problem_core.specs.Kept.{IsNumber}
use Rattle.view_tree.specs.JsonTrees.{Branch, branch, Branches, no_branches, more, size, size_in, views_of, views_in, with_branch}
use Rattle.view_tree.specs.Views.{LiveView, ViewTree, IsTree, window}
use Rattle.view_tree.specs.Views as tree
use Rattle.held_items.specs.Attributes.{view_attributes, all_attributes, attributes_from, IsGrown}
use Rattle.held_items.proofs.Lists.{four-rising, all-unmapped}
use Rattle.frac_core.proofs.Lists.{pairs-nil}

-- ---- views that come

pub attributes-more : (views new : List LiveView) → all_attributes (views ++ new) ≡ all_attributes views ++ all_attributes new
attributes-more [] new = refl
attributes-more (u ∷ views) new = ap (λ (ns : List ℕ). view_attributes u.id ++ ns) (attributes-more views new) ∙ sym (append_assoc (view_attributes u.id) (all_attributes views) (all_attributes new))

-- all attributes, once they have come
pub grown-attributes : (old new : List LiveView) (id n : ℕ) → IsGrown old new id n → all_attributes new ≡ all_attributes old ++ attributes_from id n
grown-attributes old new id n grown = ap all_attributes grown.are ∙ attributes-more old grown.more ∙ ap (λ (ns : List ℕ). all_attributes old ++ ns) grown.attributes

from-append : (id m n : ℕ) → attributes_from id (m + n) ≡ attributes_from id m ++ attributes_from (id + m) n
from-append id zero n =
    let none_more : zero + n ≡ n = omega arith in
    let same : id ≡ id + zero = omega arith in
    ap (attributes_from id) none_more ∙ ap (λ (i : ℕ). attributes_from i n) same
from-append id (suc m) n =
    let one_more : suc m + n ≡ suc (m + n) = omega arith in
    let next : id + 1 + m ≡ id + suc m = omega arith in
    ap (attributes_from id) one_more
    ∙ ap (λ (ns : List ℕ). view_attributes id ++ ns) (from-append (id + 1) m n ∙ ap (λ (i : ℕ). attributes_from (id + 1) m ++ attributes_from i n) next)
    ∙ sym (append_assoc (view_attributes id) (attributes_from (id + 1) m) (attributes_from (id + suc m) n))

-- the views of a branch
mutual
  pub attributes-branch : (next parent : ℕ) (b : Branch) → all_attributes (views_of next parent b) ≡ attributes_from next (size b)
  attributes-branch next parent (branch name inner) = ap (λ (ns : List ℕ). view_attributes next ++ ns) (attributes-branches (next + 1) next inner)

  attributes-branches : (next parent : ℕ) (bs : Branches) → all_attributes (views_in next parent bs) ≡ attributes_from next (size_in bs)
  attributes-branches next parent no_branches = refl
  attributes-branches next parent (more b bs) =
      attributes-more (views_of next parent b) (views_in (next + size b) parent bs)
      ∙ ap (λ (ns : List ℕ). ns ++ all_attributes (views_in (next + size b) parent bs)) (attributes-branch next parent b)
      ∙ ap (λ (ns : List ℕ). attributes_from next (size b) ++ ns) (attributes-branches (next + size b) parent bs)
      ∙ sym (from-append next (size b) (size_in bs))

-- one view has come
pub grown-view : (t new : ViewTree) (name : List ℕ) (parent id : ℕ) → IsTree t → IsTree new → new ≡ tree.with_view t name parent → id ≡ t.next → IsGrown t.views new.views id 1
grown-view t new name parent id is new_is added id_is = subst (λ (n : ℕ). IsGrown t.views new.views n 1) (sym id_is) (record {
  more = record { id = t.next; name = name; parent = Some parent } ∷ [];
  are = ap (λ (u : ViewTree). u.views) added;
  attributes = refl;
  above = is.below;
  few = new_is.few;
  small = omega (arith, new_is.ids, ap (λ (u : ViewTree). u.next) added);
})

-- a branch has come
pub grown-branch : (t new : ViewTree) (parent id n : ℕ) (b : Branch) → IsTree t → IsTree new → new ≡ with_branch t parent b → id ≡ t.next → n ≡ size b → IsGrown t.views new.views id n
grown-branch t new parent id n b is new_is added id_is n_is = subst (λ (i : ℕ). IsGrown t.views new.views i n) (sym id_is) (subst (λ (k : ℕ). IsGrown t.views new.views t.next k) (sym n_is) (record {
  more = views_of t.next parent b;
  are = ap (λ (u : ViewTree). u.views) added;
  attributes = attributes-branch t.next parent b;
  above = is.below;
  few = new_is.few;
  small = omega (arith, new_is.ids, ap (λ (u : ViewTree). u.next) added);
}))

-- ---- how great they are

each-below : (views : List LiveView) (id : ℕ) → Each (λ v. v.id < id) views → Each (λ a. a < 4 * id + 1) (all_attributes views)
each-below [] id h = tt
each-below (v ∷ views) id h = (omega (arith, h.0), (omega (arith, h.0), (omega (arith, h.0), (omega (arith, h.0), each-below views id h.1))))

pub attributes-below : (views : List LiveView) (id : ℕ) → All (λ v. v.id < id) views → All (λ a. a < 4 * id + 1) (all_attributes views)
attributes-below views id h = All-from_recursion (λ a. a < 4 * id + 1) (all_attributes views) (each-below views id (recursion_from_All (λ v. v.id < id) views h))

-- the stays of the views have no attribute of a later view
pub stays-below : (stays : List Stay) (views : List LiveView) (id : ℕ) → IsPermutation (all_attributes views) (map (λ s. s.attr) stays) → All (λ v. v.id < id) views → All (λ s. s.attr ≤ 4 * id) stays
stays-below stays views id are h =
    all-unmapped (λ (s : Stay). s.attr) (λ a. a ≤ 4 * id) stays
    (All-weaker (λ a. a < 4 * id + 1) (λ a. a ≤ 4 * id) (λ a less. omega (arith, less)) (map (λ s. s.attr) stays) (All-permutation (λ a. a < 4 * id + 1) (all_attributes views) (map (λ s. s.attr) stays) are (attributes-below views id h)))

pub attribute-count : (views : List LiveView) → length (all_attributes views) ≡ 4 * length views
attribute-count [] = refl
attribute-count (v ∷ views) = omega (arith, attribute-count views)

-- ---- new ones

-- attributes that may be added where those below n are taken
pub record MayBeNew (n : ℕ) (attrs : List ℕ) : Type 0 where
  pub numbers : All IsNumber attrs
  pub rising : AllPairs (λ a b. a < b) attrs
  pub above : All (λ a. n ≤ a) attrs

pub four-numbers : (id : ℕ) → id < 2 ^ 29 → Each IsNumber (view_attributes id)
four-numbers id h = ((omega arith, omega (arith, h)), ((omega arith, omega (arith, h)), ((omega arith, omega (arith, h)), ((omega arith, omega (arith, h)), tt))))

pub view-new : (id : ℕ) → id < 2 ^ 29 → MayBeNew (4 * id + 1) (view_attributes id)
view-new id h = record {
  numbers = All-from_recursion IsNumber (view_attributes id) (four-numbers id h);
  rising = four-rising (λ (n : ℕ). n) (4 * id + 1) (4 * id + 2) (4 * id + 3) (4 * id + 4) (omega arith) (omega arith) (omega arith);
  above = All-from_recursion (λ a. 4 * id + 1 ≤ a) (view_attributes id) (omega arith, (omega arith, (omega arith, (omega arith, tt))));
}

pub none-new : (m : ℕ) → MayBeNew m []
none-new m = record {
  numbers = λ k d within. absurd (omega (arith, within));
  rising = pairs-nil (λ (a b : ℕ). a < b);
  above = λ k d within. absurd (omega (arith, within));
}

pub contains-left : (id : ℕ) → Contains (view_attributes id) (4 * id + 1)
contains-left id = (0, omega arith, refl)

pub contains-top : (id : ℕ) → Contains (view_attributes id) (4 * id + 2)
contains-top id = (1, omega arith, refl)

pub contains-width : (id : ℕ) → Contains (view_attributes id) (4 * id + 3)
contains-width id = (2, omega arith, refl)

pub contains-height : (id : ℕ) → Contains (view_attributes id) (4 * id + 4)
contains-height id = (3, omega arith, refl)

-- ---- the window

-- each tree has the attributes of the window
pub window-among : (views : List LiveView) (v : ℕ) → slice_get views 0 ≡ Some window → Contains (view_attributes 0) v → Contains (all_attributes views) v
window-among [] v root inside = absurd (none-some window root)
window-among (u ∷ views) v root inside = Contains-append_left (view_attributes u.id) (all_attributes views) v (subst (λ (w : LiveView). Contains (view_attributes w.id) v) (sym (same_Some u window root)) inside)
