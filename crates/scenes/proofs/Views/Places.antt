-- The views of places, and the values of their attributes.
use Rattle.std.proofs.Common.{◌≡◌, ℕ, zero, suc, ◌+◌, ◌*◌, ◌<◌, Bool, true, false, cond, nat_eq, List, [], ◌∷◌, length, map, take, Some, None, Option, refl, sym, ap}
use Rattle.std.proofs.Common.{◌∙◌, ◌^◌, subst, arith, add-one, eq-eqb, ne_eqb, ◌++◌, ◌≤◌, All, AllPairs, IsPermutation}
use Rattle.std.specs.Prelude.{slice_get}
use Rattle.std.specs.List.{Contains, AllByRecursion as Each}
use Rattle.std.proofs.lemmas.Option.{none-some, same_Some}
use Rattle.std.proofs.lemmas.List.Elements.{All-from_recursion, recursion_from_All, Contains-append_left, Contains-append_right}
use Rattle.std.proofs.lemmas.List.Sorted.{Contains-permutation}
use Rattle.problem_core.specs.declared.parts.Stay.{Stay}
use Rattle.problem_core.specs.Layout.{HasStay}
use Rattle.view_tree.specs.Views.{IsTree, LiveView, ViewTree, view_of}
use Rattle.held_items.specs.Attributes.{all_attributes, view_attributes}
use Rattle.frac_core.proofs.Lists.{pairs-nil, pairs-rest}
use Rattle.held_items.proofs.Lists.{four-rising, rising-append}
use Rattle.held_items.proofs.Views.Attributes.{contains-left, contains-top, contains-width, contains-height}

-- ---- places of views

same-find : (id : ℕ) (v : LiveView) (o : Option LiveView) → nat_eq v.id id ≡ true → cond (nat_eq v.id id) (Some v) o ≡ Some v
same-find id v o is = ap (λ (b : Bool). cond b (Some v) o) is

-- the view at this place is the first of its number
pub view-at : (views : List LiveView) (i id : ℕ) (v : LiveView) → view_of (take i views) id ≡ None → slice_get views i ≡ Some v → v.id ≡ id → view_of views id ≡ Some v
view-at [] i id v before at is = absurd (none-some v at)
view-at (w ∷ views) zero id v before at is =
    let same : w ≡ v = same_Some w v at in
    subst (λ (u : LiveView). cond (nat_eq u.id id) (Some u) (view_of views id) ≡ Some v) (sym same) (same-find id v (view_of views id) (eq-eqb v.id id is))
view-at (w ∷ views) (suc i) id v before at is =
    elim (nat_eq w.id id) as (λ b. cond b (Some w) (view_of (take i views) id) ≡ None → cond b (Some w) (view_of views id) ≡ Some v) [
      | true ↦ λ h. absurd (none-some w (sym h))
      | false ↦ λ h. view-at views i id v h at is
    ] before

last-find : (id : ℕ) (v : LiveView) → (v.id ≡ id → ⊥) → cond (nat_eq v.id id) (Some v) None ≡ None
last-find id v not = ap (λ (b : Bool). cond b (Some v) None) (ne_eqb v.id id not)

-- none of the views up to this place has the number
further : (views : List LiveView) (i id : ℕ) → view_of (take i views) id ≡ None → i < length views → ((v : LiveView) → slice_get views i ≡ Some v → v.id ≡ id → ⊥) → view_of (take (suc i) views) id ≡ None
further [] i id before within not = refl
further (w ∷ views) zero id before within not = last-find id w (not w refl)
further (w ∷ views) (suc i) id before within not =
    elim (nat_eq w.id id) as (λ b. cond b (Some w) (view_of (take i views) id) ≡ None → cond b (Some w) (view_of (take (suc i) views) id) ≡ None) [
      | true ↦ λ h. absurd (none-some w (sym h))
      | false ↦ λ h. further views i id h (omega (arith, within)) not
    ] before

pub view-further : (views : List LiveView) (i id : ℕ) → view_of (take i views) id ≡ None → i < length views → ((v : LiveView) → slice_get views i ≡ Some v → v.id ≡ id → ⊥) → view_of (take (i + 1) views) id ≡ None
view-further views i id before within not = ap (λ (n : ℕ). view_of (take n views) id) (add-one i) ∙ further views i id before within not

at-place : (P : LiveView → Type 0) (views : List LiveView) (i : ℕ) (v : LiveView) → Each P views → slice_get views i ≡ Some v → P v
at-place P [] i v h at = absurd (none-some v at)
at-place P (w ∷ views) zero v h at = subst P (same_Some w v at) h.0
at-place P (w ∷ views) (suc i) v h at = at-place P views i v h.1 at

pub view-small : (t : ViewTree) (i : ℕ) (v : LiveView) → IsTree t → slice_get t.views i ≡ Some v → v.id < 2 ^ 29
view-small t i v tree at =
    let below : v.id < t.next = at-place (λ (u : LiveView). u.id < t.next) t.views i v (recursion_from_All (λ (u : LiveView). u.id < t.next) t.views tree.below) at in
    omega (arith, below, tree.ids)

-- ---- the attributes of a view

pub among : (views : List LiveView) (i : ℕ) (v : LiveView) (a : ℕ) → slice_get views i ≡ Some v → Contains (view_attributes v.id) a → Contains (all_attributes views) a
among [] i v a at inside = absurd (none-some v at)
among (w ∷ views) zero v a at inside =
    Contains-append_left (view_attributes w.id) (all_attributes views) a (subst (λ (u : LiveView). Contains (view_attributes u.id) a) (sym (same_Some w v at)) inside)
among (w ∷ views) (suc i) v a at inside = Contains-append_right (view_attributes w.id) (all_attributes views) a (among views i v a at inside)

pub stay-of : (stays : List Stay) (a : ℕ) → Contains (map (λ s. s.attr) stays) a → HasStay stays a
stay-of [] a (k, within, is) = absurd (omega (arith, within))
stay-of (s ∷ stays) a (zero, within, is) = (zero, s, omega arith, refl, is)
stay-of (s ∷ stays) a (suc k, within, is) =
    let rest = stay-of stays a (k, omega (arith, within), is) in
    (suc rest.0, rest.1, omega (arith, rest.2), rest.3, rest.4)

-- each attribute of the view at a place has a stay
pub view-stays : (stays : List Stay) (views : List LiveView) (i : ℕ) (v : LiveView) → IsPermutation (all_attributes views) (map (λ s. s.attr) stays) → slice_get views i ≡ Some v → All (HasStay stays) (view_attributes v.id)
view-stays stays views i v are at =
    All-from_recursion (HasStay stays) (view_attributes v.id)
    (has (4 * v.id + 1) (contains-left v.id), (has (4 * v.id + 2) (contains-top v.id), (has (4 * v.id + 3) (contains-width v.id), (has (4 * v.id + 4) (contains-height v.id), tt))))
  where
    has : (a : ℕ) → Contains (view_attributes v.id) a → HasStay stays a
    has a inside = stay-of stays a (Contains-permutation (all_attributes views) (map (λ s. s.attr) stays) a are (among views i v a at inside))

-- ---- the attributes of all views

-- those of the views up to the next place
pub attributes-next : (views : List LiveView) (i : ℕ) (v : LiveView) → slice_get views i ≡ Some v → all_attributes (take (i + 1) views) ≡ all_attributes (take i views) ++ view_attributes v.id
attributes-next views i v at = ap (λ (n : ℕ). all_attributes (take n views)) (add-one i) ∙ on views i v at
  where
    on : (views : List LiveView) (i : ℕ) (v : LiveView) → slice_get views i ≡ Some v → all_attributes (take (suc i) views) ≡ all_attributes (take i views) ++ view_attributes v.id
    on [] i v at = absurd (none-some v at)
    on (w ∷ views) zero v at = ap (λ (u : LiveView). view_attributes u.id) (same_Some w v at)
    on (w ∷ views) (suc i) v at = ap (λ (ns : List ℕ). view_attributes w.id ++ ns) (on views i v at)

-- they rise where the views' numbers do
pub attributes-rise : (views : List LiveView) → AllPairs (λ v w. v.id < w.id) views → AllPairs (λ a b. a < b) (all_attributes views)
attributes-rise [] h = pairs-nil (λ (a b : ℕ). a < b)
attributes-rise (v ∷ views) h =
    rising-append (λ (n : ℕ). n) (view_attributes v.id) (all_attributes views) (4 * v.id + 5)
    (four-rising (λ (n : ℕ). n) (4 * v.id + 1) (4 * v.id + 2) (4 * v.id + 3) (4 * v.id + 4) (omega arith) (omega arith) (omega arith))
    (attributes-rise views (pairs-rest (λ (u w : LiveView). u.id < w.id) v views h))
    (All-from_recursion (λ a. a < 4 * v.id + 5) (view_attributes v.id) (omega arith, (omega arith, (omega arith, (omega arith, tt)))))
    (All-from_recursion (λ a. 4 * v.id + 5 ≤ a) (all_attributes views) (above views (recursion_from_All (λ w. v.id < w.id) views (λ k d within. h 0 (suc k) d (omega arith) (omega (arith, within))))))
  where
    above : (ws : List LiveView) → Each (λ w. v.id < w.id) ws → Each (λ a. 4 * v.id + 5 ≤ a) (all_attributes ws)
    above [] g = tt
    above (w ∷ ws) g = (omega (arith, g.0), (omega (arith, g.0), (omega (arith, g.0), (omega (arith, g.0), above ws g.1))))
