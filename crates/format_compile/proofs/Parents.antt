-- The parent of a view is the view that has the parent's name.
use Rattle.std.proofs.Common.{◌≡◌, ℕ, zero, suc, ◌<◌, ◌^◌, List, [], ◌∷◌, length, map, get_or, find, cond, nat_eq, Bool, true, false, Option, Some, None, IfSome, IfNone, refl, sym, subst, ap, ◌∙◌, arith}
use Rattle.std.specs.Option.{option_map, option_and_then}
use Rattle.std.specs.Str.{bytes_eq}
use Rattle.std.proofs.lemmas.Bool.Decides.{nat_tests}
use Rattle.std.proofs.lemmas.List.{get_or-map, length-map}
use Rattle.std.proofs.lemmas.Slice.Eq.{bytes_eq-Decides}
use Rattle.name_tables.specs.Names.{AreDistinct}
use Rattle.view_tree.specs.Views.{LiveView, ViewTree, IsTree, HasParent, AreAbove, view_named, view_of}
use Rattle.view_tree.specs.declared.view.ViewId.{ViewId}
use Rattle.format_compile.specs.FormatLines.{name_of, name_in}
use Rattle.format_compile.specs.FormatRefusals.{parent_of}

inner : {X : Type 0} (x y : X) → Some x ≡ Some y → x ≡ y
inner x y e = cc

nothing : {X : Type 0} (x : X) → None ≡ Some x → ⊥
nothing x e = absurd cc

-- ---- what is found

found_in : {X : Type 0} (test : X → Bool) (xs : List X) (x : X) → find test xs ≡ Some x → (k : ℕ) × (k < length xs) × (get_or xs k x ≡ x) × (test x ≡ true)
found_in test [] x e = absurd (nothing x e)
found_in {X} test (y ∷ ys) x e = by (test y) refl e (found_in test ys x)
  where
    by : (b : Bool) → test y ≡ b → cond b (Some y) (find test ys) ≡ Some x → (find test ys ≡ Some x → (k : ℕ) × (k < length ys) × (get_or ys k x ≡ x) × (test x ≡ true))
        → (k : ℕ) × (k < length (y ∷ ys)) × (get_or (y ∷ ys) k x ≡ x) × (test x ≡ true)
    by true on here later = (zero, omega arith, inner y x here, subst (λ (z : X). test z ≡ true) (inner y x here) on)
    by false off rest later =
        let at = later rest in
        (suc at.0, omega (arith, at.1), at.2, at.3)

abbrev names : List LiveView → List (List ℕ)
names views = map (λ v. v.name) views

later_distinct : (v : LiveView) (vs : List LiveView) → AreDistinct (names (v ∷ vs)) → AreDistinct (names vs)
later_distinct v vs distinct = λ i j d less h. distinct (suc i) (suc j) d (omega (arith, less)) (omega (arith, h))

first_distinct : (v : LiveView) (vs : List LiveView) (k : ℕ) (w : LiveView) → AreDistinct (names (v ∷ vs)) → k < length vs → get_or vs k w ≡ w → v.name ≡ w.name → ⊥
first_distinct v vs k w distinct within at same =
    distinct zero (suc k) [] (omega arith) (omega (arith, within, length-map vs (λ (u : LiveView). u.name)))
    (same ∙ ap (λ (u : LiveView). u.name) (sym at) ∙ sym (get_or-map (λ (u : LiveView). u.name) vs k w [] within))

-- a view that is found by its number is found by its name
named_again : (vs : List LiveView) (p : ℕ) (w : LiveView) → AreDistinct (names vs) → view_of vs p ≡ Some w → view_named vs w.name ≡ Some w
named_again [] p w distinct found = absurd (nothing w found)
named_again (v ∷ vs) p w distinct found = by (nat_eq v.id p) found (named_again vs p w (later_distinct v vs distinct))
  where
    by : (b : Bool) → cond b (Some v) (view_of vs p) ≡ Some w → (view_of vs p ≡ Some w → view_named vs w.name ≡ Some w) → cond (bytes_eq w.name v.name) (Some v) (view_named vs w.name) ≡ Some w
    by true here later =
        let same : v ≡ w = inner v w here in
        let yes : bytes_eq w.name v.name ≡ true = (bytes_eq-Decides w.name v.name).1 (ap (λ (u : LiveView). u.name) (sym same)) in
        rw yes (ap (λ (u : LiveView). Some u) same)
    by false rest later =
        let at = found_in (λ (u : LiveView). nat_eq u.id p) vs w rest in
        let no : bytes_eq w.name v.name ≡ false = other (bytes_eq w.name v.name) refl (λ same. first_distinct v vs at.0 w distinct at.1 at.2 (sym same)) in
        rw no (later rest)
      where
        other : (b : Bool) → bytes_eq w.name v.name ≡ b → (w.name ≡ v.name → ⊥) → bytes_eq w.name v.name ≡ false
        other true on never = absurd (never ((bytes_eq-Decides w.name v.name).0 on))
        other false off never = off

-- ---- parents

live_of : (views : List LiveView) (q : ℕ) (o : Option ℕ) → HasParent views q o → (w : LiveView) × (view_of views q ≡ Some w)
live_of views q o has = by (view_of views q) refl has
  where
    by : (u : Option LiveView) → view_of views q ≡ u → option_map (λ v. v.parent) u ≡ Some o → (w : LiveView) × (view_of views q ≡ Some w)
    by None e h = absurd (nothing o h)
    by (Some w) e h = (w, e)

first_above : (views : List LiveView) (q : ℕ) (above : List ℕ) → AreAbove views q above → (w : LiveView) × (view_of views q ≡ Some w)
first_above views q [] are = live_of views q None are
first_above views q (r ∷ above) are = live_of views q (Some r) are.0

parent_live : (t : ViewTree) → IsTree t → (id p : ℕ) → option_and_then (λ v. v.parent) (view_of t.views id) ≡ Some p → (w : LiveView) × (view_of t.views p ≡ Some w)
parent_live t tree id p h = by (view_of t.views id) refl h
  where
    top : (v : LiveView) → view_of t.views id ≡ Some v → v.parent ≡ Some p → (above : List ℕ) → AreAbove t.views id above → (w : LiveView) × (view_of t.views p ≡ Some w)
    top v e parent [] are =
        let none : v.parent ≡ None = inner v.parent None (ap (λ (u : Option LiveView). option_map (λ x. x.parent) u) (sym e) ∙ are) in
        absurd (nothing p (sym none ∙ parent))
    top v e parent (q ∷ above) are =
        let some : v.parent ≡ Some q = inner v.parent (Some q) (ap (λ (u : Option LiveView). option_map (λ x. x.parent) u) (sym e) ∙ are.0) in
        let same : q ≡ p = inner q p (sym some ∙ parent) in
        subst (λ (n : ℕ). (w : LiveView) × (view_of t.views n ≡ Some w)) same (first_above t.views q above are.1)

    by : (u : Option LiveView) → view_of t.views id ≡ u → option_and_then (λ v. v.parent) u ≡ Some p → (w : LiveView) × (view_of t.views p ≡ Some w)
    by None e h = absurd (nothing p h)
    by (Some v) e h =
        let at = found_in (λ (u : LiveView). nat_eq u.id id) t.views v e in
        let is : v.id ≡ id = grind (arith, nat_tests, at.3) in
        let depth = tree.depths at.0 v at.1 in
        let chain : AreAbove t.views id depth.1.above = subst (λ (n : ℕ). AreAbove t.views n depth.1.above) (ap (λ (u : LiveView). u.id) at.2 ∙ is) depth.1.chain in
        top v e h depth.1.above chain

-- the parent has this number, and is found by its name
pub parent_named : (t : ViewTree) → IsTree t → (name : List ℕ) (p : ℕ) → parent_of t.views name ≡ Some p → (option_map (λ v. v.id) (view_named t.views (name_of t.views (Some p))) ≡ Some p) × (p < 2 ^ 29)
parent_named t tree name p h = by (option_map (λ v. v.id) (view_named t.views name)) h
  where
    named : (w : LiveView) → view_of t.views p ≡ Some w → (option_map (λ v. v.id) (view_named t.views (name_of t.views (Some p))) ≡ Some p) × (p < 2 ^ 29)
    named w found =
        let at = found_in (λ (u : LiveView). nat_eq u.id p) t.views w found in
        let is : w.id ≡ p = grind (arith, nat_tests, at.3) in
        let again : view_named t.views w.name ≡ Some w = named_again t.views p w tree.names found in
        let below : w.id < t.next = subst (λ (u : LiveView). u.id < t.next) at.2 (tree.below at.0 w at.1) in (
          ap (λ (u : Option LiveView). option_map (λ v. v.id) (view_named t.views (name_in u))) found ∙ ap (option_map (λ v. v.id)) again ∙ ap (λ (n : ℕ). Some n) is,
          omega (arith, is, below, tree.ids),
        )

    by : (o : Option ℕ) → option_and_then (λ id. option_and_then (λ v. v.parent) (view_of t.views id)) o ≡ Some p → (option_map (λ v. v.id) (view_named t.views (name_of t.views (Some p))) ≡ Some p) × (p < 2 ^ 29)
    by None e = absurd (nothing p e)
    by (Some id) e =
        let live = parent_live t tree id p e in
        named live.0 live.1

pub parent_found : (t : ViewTree) → IsTree t → (name : List ℕ) (o : Option ViewId) → option_map (λ id. id.0) o ≡ parent_of t.views name
    → IfSome o (λ id. option_map (λ v. v.id) (view_named t.views (name_of t.views (parent_of t.views name))) ≡ Some id.0) × IfSome o (λ id. id.0 < 2 ^ 29) × IfNone o (name_of t.views (parent_of t.views name) ≡ [])
parent_found t tree name None e = (tt, tt, ap (name_of t.views) (sym e))
parent_found t tree name (Some id) e =
    let both = parent_named t tree name id.0 (sym e) in
    (subst (λ (q : Option ℕ). option_map (λ v. v.id) (view_named t.views (name_of t.views q)) ≡ Some id.0) e both.0, both.1, tt)
