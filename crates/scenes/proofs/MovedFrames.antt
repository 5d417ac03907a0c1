-- Which views have other frames than in an earlier scene.
use Rattle.std.proofs.Common.{◌≡◌, ◌∙◌, ◌⊎◌, ℕ, zero, suc, ◌+◌, ◌*◌, ◌<◌, ◌≤◌, Bool, cond, List, [], ◌∷◌, length, map, get_or, Some, None, Option, refl, sym, ap, subst, arith, inl, inr, eq-eqb, ne_eqb, All, IsPermutation}
use Rattle.std.specs.List.{Contains}
use Rattle.std.specs.Prelude.{Any, option_map}
use Rattle.std.proofs.lemmas.Bool.{cases_eq}
use Rattle.std.proofs.lemmas.Option.{none-some, same_Some}
use Rattle.std.proofs.lemmas.List.Elements.{All-contains, Contains-get_or, Contains-append_cases, Contains-append_left, Contains-append_right}
use Rattle.std.proofs.lemmas.List.Sorted.{Contains-permutation, IsPermutation-sym}
use Rattle.frac_core.specs.Fraction.{Fraction}
use Rattle.problem_core.specs.Gaps.{HasValue, value_of}
use Rattle.view_tree.specs.Attributes.{left_of, top_of, width_of, height_of}
use Rattle.view_tree.specs.Views.{LiveView, view_of}
use Rattle.layout_solver.specs.Layouts.{AreApart, IsKeptSolution, Solution}
use Rattle.corner_view.specs.Moves.{AreMoved, AreMovedSince, HasMoved, HasStayed, Shows}
use Rattle.layout_solver.specs.Moves.{HasValueOf}
use Rattle.layout_solver.proofs.ApartValues.{value_in, value_is}
use Rattle.held_items.specs.Attributes.{all_attributes, view_attributes}
use Rattle.scenes.specs.Frames.{IsFrameOf, frame_of}
use Rattle.scenes.specs.Moves.{AreOwners, owner}
use Rattle.scenes.specs.Scene.{Scene}
use Rattle.compile_parts.specs.Meaning.{MetricList}
use Rattle.view_tree.specs.Views.{ViewTree}
use Rattle.held_items.specs.Kept.{items_of}
use Rattle.held_items.specs.declared.item.Item as declared
use Rattle.scenes.specs.declared.scene.past.Past.{Past}
use Rattle.scenes.specs.Kept.{IsKept, earlier_at, own_or, scene_of}
use Rattle.std.specs.List.{dedup}
use Rattle.std.specs.List.Retain.{DiffersFromLast, IsFiltered}
use Rattle.std.specs.List.Sorted.{IsSorted, IsStrictlyIncreasing}
use Rattle.std.specs.Ordering.{nat_cmp}
use Rattle.std.proofs.lemmas.List.Filters.{dedup_is}
use Rattle.std.proofs.lemmas.List.Kept.{Contains-dedup_nat, Contains-from_dedup}
use Rattle.std.proofs.lemmas.Map.Keys.{IsStrictlyIncreasing-dedup}
use lib.Dec.{eqb}

-- ---- views and their attributes

-- a view that is found has the number
found-id : (views : List LiveView) (id : ℕ) (v : LiveView) → view_of views id ≡ Some v → v.id ≡ id
found-id [] id v e = absurd (none-some v e)
found-id (w ∷ views) id v e =
    elim (cases_eq w.id id) [
      | inl same ↦
          let first : w ≡ v = same_Some w v (sym (ap (λ (b : Bool). cond b (Some w) (view_of views id)) (eq-eqb w.id id same)) ∙ e) in
          sym (ap (λ (u : LiveView). u.id) first) ∙ same
      | inr other ↦
          found-id views id v (sym (ap (λ (b : Bool). cond b (Some w) (view_of views id)) (ne_eqb w.id id other)) ∙ e)
    ]

-- what is found of it
record HasView (views : List LiveView) (id : ℕ) : Type 0 where
  view : LiveView
  is : view_of views id ≡ Some view

there : (w : LiveView) (views : List LiveView) (id : ℕ) → HasView views id → HasView (w ∷ views) id
there w views id h =
    elim (cases_eq w.id id) [
      | inl same ↦ record { view = w; is = ap (λ (b : Bool). cond b (Some w) (view_of views id)) (eq-eqb w.id id same) }
      | inr other ↦
          record { view = h.view; is = ap (λ (b : Bool). cond b (Some w) (view_of views id)) (ne_eqb w.id id other) ∙ h.is }
    ]

here : (w : LiveView) (views : List LiveView) → HasView (w ∷ views) w.id
here w views = record { view = w; is = ap (λ (b : Bool). cond b (Some w) (view_of views w.id)) (eq-eqb w.id w.id refl) }

-- an attribute of a view is one of four
record IsOneOf (id a : ℕ) : Type 0 where
  above : 4 * id + 1 ≤ a
  below : a ≤ 4 * id + 4

one-of : (id a : ℕ) → Contains (view_attributes id) a → IsOneOf id a
one-of id a (zero, w, is) = record { above = omega (arith, is); below = omega (arith, is) }
one-of id a (suc zero, w, is) = record { above = omega (arith, is); below = omega (arith, is) }
one-of id a (suc (suc zero), w, is) = record { above = omega (arith, is); below = omega (arith, is) }
one-of id a (suc (suc (suc zero)), w, is) = record { above = omega (arith, is); below = omega (arith, is) }
one-of id a (suc (suc (suc (suc k))), w, is) = absurd (omega (arith, w))

owner-is : (id a : ℕ) → IsOneOf id a → owner a ≡ id
owner-is id a is = omega (arith, is.above, is.below)

own-one : (a : ℕ) → 0 < a → IsOneOf (owner a) a
own-one a some = record { above = omega (arith, some); below = omega (arith, some) }

of-one : (id a : ℕ) → IsOneOf id a → Contains (view_attributes id) a
of-one id a is =
    elim (cases_eq (4 * id + 1) a) [
      | inl e ↦ (0, omega arith, e)
      | inr n1 ↦
          elim (cases_eq (4 * id + 2) a) [
            | inl e ↦ (1, omega arith, e)
            | inr n2 ↦
                elim (cases_eq (4 * id + 3) a) [
                  | inl e ↦ (2, omega arith, e)
                  | inr n3 ↦ (3, omega arith, omega (arith, is.above, is.below, n1, n2, n3))
                ]
          ]
    ]

-- an attribute of the views is that of a view with the number
record IsIn (views : List LiveView) (a : ℕ) : Type 0 where
  id : ℕ
  one : IsOneOf id a
  view : HasView views id

in-views : (views : List LiveView) (a : ℕ) → Contains (all_attributes views) a → IsIn views a
in-views [] a (k, within, is) = absurd (omega (arith, within))
in-views (w ∷ views) a has =
    elim (Contains-append_cases (view_attributes w.id) (all_attributes views) a has) [
      | inl own ↦ record { id = w.id; one = one-of w.id a own; view = here w views }
      | inr later ↦
          let rest = in-views views a later in
          record { id = rest.id; one = rest.one; view = there w views rest.id rest.view }
    ]

-- the attributes of a view with the number are those of the views
among-all : (views : List LiveView) (id a : ℕ) (v : LiveView) → view_of views id ≡ Some v → Contains (view_attributes id) a → Contains (all_attributes views) a
among-all [] id a v e has = absurd (none-some v e)
among-all (w ∷ views) id a v e has =
    elim (cases_eq w.id id) [
      | inl same ↦
          Contains-append_left (view_attributes w.id) (all_attributes views) a
          (subst (λ (n : ℕ). Contains (view_attributes n) a) (sym same) has)
      | inr other ↦
          Contains-append_right (view_attributes w.id) (all_attributes views) a
          (among-all views id a v (sym (ap (λ (b : Bool). cond b (Some w) (view_of views id)) (ne_eqb w.id id other)) ∙ e) has)
    ]

-- ---- values and frames, where there are any

abbrev attr-shown : Scene → ℕ → Option Fraction
attr-shown s a = option_map (λ _. value_of s.values a) (view_of s.tree.views (owner a))

abbrev frame-shown : Scene → ℕ → Option (List Fraction)
frame-shown s id = option_map (λ v. frame_of s.values v.id) (view_of s.tree.views id)

frame-is : (s : Scene) (id : ℕ) → Shows IsFrameOf s id (frame-shown s id)
frame-is s id = by (view_of s.tree.views id) refl
  where
    by : (o : Option LiveView) → view_of s.tree.views id ≡ o → Shows IsFrameOf s id (option_map (λ v. frame_of s.values v.id) o)
    by None e = λ f h. none-some h.0 (sym e ∙ h.1)
    by (Some v) e = (v, e, refl)

-- the values are those of the views' attributes
pub record IsShown (s : Scene) : Type 0 where
  pub all : IsPermutation (all_attributes s.tree.views) (map (λ v. v.0) s.values)
  pub apart : AreApart s.values

first-of : (values : List (ℕ × Fraction)) (a : ℕ) (f : Fraction) → Any (λ v. (v.0 ≡ a) × (v.1 ≡ f)) values → Contains (map (λ v. v.0) values) a
first-of [] a f (k, w, within, is, e) = absurd (omega (arith, within))
first-of (v ∷ values) a f (zero, w, within, is, e) = (zero, omega arith, ap (λ (u : ℕ × Fraction). u.0) is ∙ e.0)
first-of (v ∷ values) a f (suc k, w, within, is, e) =
    let rest = first-of values a f (k, w, omega (arith, within), is, e) in (suc rest.0, omega (arith, rest.1), rest.2)

has-of : (values : List (ℕ × Fraction)) (a : ℕ) → Contains (map (λ v. v.0) values) a → HasValue values a
has-of [] a (k, within, is) = absurd (omega (arith, within))
has-of (v ∷ values) a (zero, within, is) = (zero, v, omega arith, refl, is)
has-of (v ∷ values) a (suc k, within, is) =
    let rest = has-of values a (k, omega (arith, within), is) in
    (suc rest.0, rest.1, omega (arith, rest.2), rest.3, rest.4)

-- the solution of a scene's values
abbrev pub IsSolutionOf : Scene → Solution → Type 0
IsSolutionOf s sol = sol.values ≡ s.values

attr-in : (s : Scene) (a : ℕ) (f : Fraction) → IsShown s → Any (λ v. (v.0 ≡ a) × (v.1 ≡ f)) s.values → IsIn s.tree.views a
attr-in s a f shown any =
    in-views s.tree.views a
    (Contains-permutation (map (λ v. v.0) s.values) (all_attributes s.tree.views) a
    (IsPermutation-sym (all_attributes s.tree.views) (map (λ v. v.0) s.values) shown.all) (first-of s.values a f any))

-- what is shown of an attribute is what its view shows
attr-is : (s : Scene) (sol : Solution) (a : ℕ) → IsShown s → IsSolutionOf s sol → 0 < a → (o : Option Fraction) → Shows HasValueOf sol a o → o ≡ attr-shown s a
attr-is s sol a shown same some (Some f) shows =
    let any : Any (λ v. (v.0 ≡ a) × (v.1 ≡ f)) s.values = subst (λ (vs : List (ℕ × Fraction)). Any (λ v. (v.0 ≡ a) × (v.1 ≡ f)) vs) same shows in
    let own = attr-in s a f shown any in
    let at : view_of s.tree.views (owner a) ≡ Some own.view.view =
    ap (view_of s.tree.views) (owner-is own.id a own.one) ∙ own.view.is in
    ap Some (value_is s.values a f shown.apart any) ∙ sym (ap (option_map (λ _. value_of s.values a)) at)
attr-is s sol a shown same some None none = by (view_of s.tree.views (owner a)) refl
  where
    by : (o : Option LiveView) → view_of s.tree.views (owner a) ≡ o → None ≡ option_map (λ _. value_of s.values a) o
    by None e = refl
    by (Some v) e =
        let inside = among-all s.tree.views (owner a) a v e (of-one (owner a) a (own-one a some)) in
        let has = has-of s.values a (Contains-permutation (all_attributes s.tree.views) (map (λ v. v.0) s.values) a shown.all inside) in
        absurd
        (none (value_of s.values a)
        (subst (λ (vs : List (ℕ × Fraction)). Any (λ v. (v.0 ≡ a) × (v.1 ≡ value_of s.values a)) vs) (sym same) (value_in s.values a has)))

-- no attribute has the number 0
zero-none : (s : Scene) (sol : Solution) → IsShown s → IsSolutionOf s sol → (o : Option Fraction) → Shows HasValueOf sol 0 o → o ≡ None
zero-none s sol shown same (Some f) shows =
    let any : Any (λ v. (v.0 ≡ 0) × (v.1 ≡ f)) s.values = subst (λ (vs : List (ℕ × Fraction)). Any (λ v. (v.0 ≡ 0) × (v.1 ≡ f)) vs) same shows in
    absurd (omega (arith, (attr-in s 0 f shown any).one.above))
zero-none s sol shown same None none = refl

-- ---- one frame, four values

same-four :
    (u v : List (ℕ × Fraction)) (m n id a : ℕ) → m ≡ id → n ≡ id → frame_of u m ≡ frame_of v n → IsOneOf id a
    → value_of u a ≡ value_of v a
same-four u v m n id a em en same is =
    let at : frame_of u id ≡ frame_of v id = sym (ap (frame_of u) em) ∙ same ∙ ap (frame_of v) en in
    let left : value_of u (left_of id) ≡ value_of v (left_of id) = cc in
    let top : value_of u (top_of id) ≡ value_of v (top_of id) = cc in
    let width : value_of u (width_of id) ≡ value_of v (width_of id) = cc in
    let height : value_of u (height_of id) ≡ value_of v (height_of id) = cc in
    by (of-one id a is) left top width height
  where
    by : Contains (view_attributes id) a → value_of u (left_of id) ≡ value_of v (left_of id) → value_of u (top_of id) ≡ value_of v (top_of id)
        → value_of u (width_of id) ≡ value_of v (width_of id) → value_of u (height_of id) ≡ value_of v (height_of id) → value_of u a ≡ value_of v a
    by (zero, w, e) left top width height = subst (λ (n : ℕ). value_of u n ≡ value_of v n) e left
    by (suc zero, w, e) left top width height = subst (λ (n : ℕ). value_of u n ≡ value_of v n) e top
    by (suc (suc zero), w, e) left top width height = subst (λ (n : ℕ). value_of u n ≡ value_of v n) e width
    by (suc (suc (suc zero)), w, e) left top width height = subst (λ (n : ℕ). value_of u n ≡ value_of v n) e height
    by (suc (suc (suc (suc k))), w, e) left top width height = absurd (omega (arith, w))

-- where a view has one frame, each of its attributes has one value
attr-same :
    (old new : Scene) (id a : ℕ) → IsOneOf id a → frame-shown old id ≡ frame-shown new id → attr-shown old a ≡ attr-shown new a
attr-same old new id a is same =
    rw (owner-is id a is) (by (view_of old.tree.views id) (view_of new.tree.views id) refl refl same)
  where
    by : (o p : Option LiveView) → view_of old.tree.views id ≡ o → view_of new.tree.views id ≡ p
        → option_map (λ v. frame_of old.values v.id) o ≡ option_map (λ v. frame_of new.values v.id) p
        → option_map (λ _. value_of old.values a) o ≡ option_map (λ _. value_of new.values a) p
    by None None eo ep e = refl
    by None (Some w) eo ep e = absurd (none-some (frame_of new.values w.id) e)
    by (Some v) None eo ep e = absurd (none-some (frame_of old.values v.id) (sym e))
    by (Some v) (Some w) eo ep e =
        ap Some
        (same-four old.values new.values v.id w.id id a (found-id old.tree.views id v eo) (found-id new.tree.views id w ep)
        (same_Some (frame_of old.values v.id) (frame_of new.values w.id) e) is)

-- and where each has one value, the view has one frame
frame-same :
    (old new : Scene) (id : ℕ) → attr-shown old (left_of id) ≡ attr-shown new (left_of id) → attr-shown old (top_of id) ≡ attr-shown new (top_of id)
    → attr-shown old (width_of id) ≡ attr-shown new (width_of id) → attr-shown old (height_of id) ≡ attr-shown new (height_of id)
    → frame-shown old id ≡ frame-shown new id
frame-same old new id left top width height =
    let el : owner (left_of id) ≡ id = omega arith in
    let et : owner (top_of id) ≡ id = omega arith in
    let ew : owner (width_of id) ≡ id = omega arith in
    let eh : owner (height_of id) ≡ id = omega arith in
    by (view_of old.tree.views id) (view_of new.tree.views id) refl refl (rw el at left) (rw et at top) (rw ew at width) (rw eh at height)
  where
    by : (o p : Option LiveView) → view_of old.tree.views id ≡ o → view_of new.tree.views id ≡ p
        → option_map (λ _. value_of old.values (left_of id)) o ≡ option_map (λ _. value_of new.values (left_of id)) p
        → option_map (λ _. value_of old.values (top_of id)) o ≡ option_map (λ _. value_of new.values (top_of id)) p
        → option_map (λ _. value_of old.values (width_of id)) o ≡ option_map (λ _. value_of new.values (width_of id)) p
        → option_map (λ _. value_of old.values (height_of id)) o ≡ option_map (λ _. value_of new.values (height_of id)) p
        → option_map (λ v. frame_of old.values v.id) o ≡ option_map (λ v. frame_of new.values v.id) p
    by None None eo ep l t w h = refl
    by None (Some v) eo ep l t w h = absurd (none-some (value_of new.values (left_of id)) l)
    by (Some v) None eo ep l t w h = absurd (none-some (value_of old.values (left_of id)) (sym l))
    by (Some v) (Some u) eo ep l t w h =
        let dl = same_Some (value_of old.values (left_of id)) (value_of new.values (left_of id)) l in
        let dt = same_Some (value_of old.values (top_of id)) (value_of new.values (top_of id)) t in
        let dw = same_Some (value_of old.values (width_of id)) (value_of new.values (width_of id)) w in
        let dh = same_Some (value_of old.values (height_of id)) (value_of new.values (height_of id)) h in
        let both : frame_of old.values id ≡ frame_of new.values id =
        (λ i. dl i ∷ dt i ∷ dw i ∷ dh i ∷ []) in
        ap Some
        (ap (frame_of old.values) (found-id old.tree.views id v eo) ∙ both
        ∙ sym (ap (frame_of new.values) (found-id new.tree.views id u ep)))

-- ---- all of them

module _ (old new : Scene) (sol sol' : Solution) (shown : IsShown old) (shown' : IsShown new) (same : IsSolutionOf old sol) (same' : IsSolutionOf new sol') where
  view-moved : (id a : ℕ) → owner a ≡ id → HasMoved HasValueOf sol sol' a → HasMoved IsFrameOf old new id
  view-moved id a own m = (frame-shown old id, frame-shown new id, frame-is old id, frame-is new id, λ one. m.4 (both one))
    where
      both : frame-shown old id ≡ frame-shown new id → m.0 ≡ m.1
      both one =
          elim (cases_eq 0 a) [
            | inl none ↦
                zero-none old sol shown same m.0 (subst (λ (n : ℕ). Shows HasValueOf sol n m.0) (sym none) m.2)
                ∙ sym (zero-none new sol' shown' same' m.1 (subst (λ (n : ℕ). Shows HasValueOf sol' n m.1) (sym none) m.3))
            | inr some ↦
                let above : 0 < a = omega (arith, some) in
                let is : IsOneOf id a = subst (λ (n : ℕ). IsOneOf n a) own (own-one a above) in
                attr-is old sol a shown same above m.0 m.2 ∙ attr-same old new id a is one ∙ sym (attr-is new sol' a shown' same' above m.1 m.3)
          ]

  attr-stayed : (a : ℕ) → 0 < a → HasStayed HasValueOf sol sol' a → attr-shown old a ≡ attr-shown new a
  attr-stayed a above h = sym (attr-is old sol a shown same above h.0 h.1) ∙ attr-is new sol' a shown' same' above h.0 h.2

  view-stayed :
      (id : ℕ) → HasStayed HasValueOf sol sol' (left_of id) → HasStayed HasValueOf sol sol' (top_of id) → HasStayed HasValueOf sol sol' (width_of id)
      → HasStayed HasValueOf sol sol' (height_of id) → HasStayed IsFrameOf old new id
  view-stayed id l t w h = (
    frame-shown old id,
    frame-is old id,
    subst (Shows IsFrameOf new id)
        (sym (frame-same old new id (attr-stayed (left_of id) (omega arith) l) (attr-stayed (top_of id) (omega arith) t)
        (attr-stayed (width_of id) (omega arith) w) (attr-stayed (height_of id) (omega arith) h)))
        (frame-is new id),
  )

  pub views_moved : (attrs ids : List ℕ) → AreOwners attrs ids → AreMoved HasValueOf sol sol' attrs → AreMoved IsFrameOf old new ids
  views_moved attrs ids owners are = record {
    moved = λ k d within.
        let own = owners.own k d within in
        let at = own.1 in
        view-moved (get_or ids k d) own.0 own.2 (subst (HasMoved HasValueOf sol sol') at.2 (are.moved at.0 own.0 at.1));
    others = λ id.
        elim (tried id (left_of id) (omega arith)) [
          | inl one ↦ inl one
          | inr l ↦
              elim (tried id (top_of id) (omega arith)) [
                | inl one ↦ inl one
                | inr t ↦
                    elim (tried id (width_of id) (omega arith)) [
                      | inl one ↦ inl one
                      | inr w ↦
                          elim (tried id (height_of id) (omega arith)) [
                            | inl one ↦ inl one
                            | inr h ↦ inr (view-stayed id l t w h)
                          ]
                    ]
              ]
        ];
  }
    where
      tried : (id a : ℕ) → owner a ≡ id → Contains ids id ⊎ HasStayed HasValueOf sol sol' a
      tried id a own =
          elim (are.others a) [
            | inl one ↦ inl (subst (Contains ids) own (owners.has a one))
            | inr stayed ↦ inr stayed
          ]

-- ---- the views of attributes

owners-has : (attrs : List ℕ) (a : ℕ) → Contains attrs a → Contains (map owner attrs) (owner a)
owners-has [] a (k, within, is) = absurd (omega (arith, within))
owners-has (x ∷ xs) a (zero, within, is) = (zero, omega arith, ap owner is)
owners-has (x ∷ xs) a (suc k, within, is) =
    let rest = owners-has xs a (k, omega (arith, within), is) in (suc rest.0, omega (arith, rest.1), rest.2)

owners-own : (attrs : List ℕ) (id : ℕ) → Contains (map owner attrs) id → (attr : ℕ) × Contains attrs attr × (owner attr ≡ id)
owners-own [] id (k, within, is) = absurd (omega (arith, within))
owners-own (x ∷ xs) id (zero, within, is) = (x, (zero, omega arith, refl), is)
owners-own (x ∷ xs) id (suc k, within, is) =
    let rest = owners-own xs id (k, omega (arith, within), is) in
    (rest.0, (suc rest.1.0, omega (arith, rest.1.1), rest.1.2), rest.2)

pub mapped_owners : (attrs out : List ℕ) → out ≡ map owner attrs → AreOwners attrs out
mapped_owners attrs out are =
    subst (AreOwners attrs) (sym are)
    (record {
      has = owners-has attrs;
      own = λ k d within. owners-own attrs (get_or (map owner attrs) k d) (Contains-get_or (map owner attrs) k d within);
    })

pub sorted_owners :
    (attrs out sorted ids : List ℕ) → AreOwners attrs out → IsPermutation out sorted → IsFiltered (DiffersFromLast eqb) [] sorted ids
    → AreOwners attrs ids
sorted_owners attrs out sorted ids owners same filtered =
    subst (AreOwners attrs) (sym (dedup_is eqb sorted ids filtered))
    (record {
      has = λ a h. Contains-dedup_nat sorted (owner a) (Contains-permutation out sorted (owner a) same (owners.has a h));
      own = λ k d within.
          All-contains (λ id. (attr : ℕ) × Contains attrs attr × (owner attr ≡ id)) out (get_or (dedup eqb sorted) k d) owners.own
          (Contains-permutation sorted out (get_or (dedup eqb sorted) k d) (IsPermutation-sym out sorted same)
          (Contains-from_dedup eqb sorted (get_or (dedup eqb sorted) k d) (Contains-get_or (dedup eqb sorted) k d within)));
    })

pub sorted_rising :
    (sorted ids : List ℕ) → IsSorted nat_cmp sorted → IsFiltered (DiffersFromLast eqb) [] sorted ids → IsStrictlyIncreasing ids
sorted_rising sorted ids is filtered =
    subst IsStrictlyIncreasing (sym (dedup_is eqb sorted ids filtered)) (IsStrictlyIncreasing-dedup sorted is)

-- ---- since the latest of the earlier scenes

pub shown_of :
    (s : Scene) → IsKept s → map (λ v. v.0) s.values ≡ map (λ t. t.attr) s.stays → AreApart s.values → IsShown s
shown_of s kept attributes apart = record {
  all = subst (IsPermutation (all_attributes s.tree.views)) (sym attributes) kept.counted.stays;
  apart = apart;
}

pub frames_since :
    (tree : ViewTree) (metrics : MetricList) (items : List (List declared.Item)) (sols : List Solution) (pasts : List Past)
    (new : Scene) (sol' : Solution) (attrs ids : List ℕ)
    → length items ≡ length pasts → length sols ≡ length pasts → 0 < length pasts
    → All IsKept (earlier_at tree metrics items sols pasts) → All IsKeptSolution sols
    → IsShown new → IsSolutionOf new sol' → AreOwners attrs ids
    → AreMovedSince HasValueOf sols sol' attrs
    → AreMovedSince IsFrameOf (earlier_at tree metrics items sols pasts) new ids
frames_since tree metrics [] sols pasts new sol' attrs ids e1 e2 some kept keep shown same owners are = absurd (omega (arith, e1, some))
frames_since tree metrics (i ∷ items) [] pasts new sol' attrs ids e1 e2 some kept keep shown same owners are = absurd (omega (arith, e2, some))
frames_since tree metrics (i ∷ items) (s ∷ sols) [] new sol' attrs ids e1 e2 some kept keep shown same owners are = absurd (omega (arith, some))
frames_since tree metrics (i ∷ items) (s ∷ sols) (p ∷ pasts) new sol' attrs ids e1 e2 some kept keep shown same owners are =
    let old = scene_of (own_or p.tree tree) (own_or p.metrics metrics) (items_of i) p.setting s in
    let here : IsKept old = kept 0 old (omega arith) in
    let solved : IsKeptSolution s = keep 0 s (omega arith) in
    views_moved old new s sol' (shown_of old here solved.best.attributes solved.apart) shown refl same attrs ids owners are

-- ---- laws

one-shown :
    (s : Scene) (id : ℕ) (o p : Option (List Fraction)) → Shows IsFrameOf s id o → Shows IsFrameOf s id p → o ≡ p
one-shown s id None None a b = refl
one-shown s id None (Some g) a b = absurd (a g b)
one-shown s id (Some f) None a b = absurd (b f a)
one-shown s id (Some f) (Some g) a b =
    let one : a.0 ≡ b.0 = same_Some a.0 b.0 (sym a.1 ∙ b.1) in
    ap Some (a.2 ∙ ap (λ (v : LiveView). frame_of s.values v.id) one ∙ sym b.2)

pub moved_apart : (old new : Scene) (id : ℕ) → HasMoved IsFrameOf old new id → HasStayed IsFrameOf old new id → ⊥
moved_apart old new id m h = m.4 (one-shown old id m.0 h.0 m.2 h.1 ∙ one-shown new id h.0 m.1 h.2 m.3)

pub stayed_itself : (s : Scene) (id : ℕ) → HasStayed IsFrameOf s s id
stayed_itself s id = (frame-shown s id, frame-is s id, frame-is s id)

none-not-some : (f : List Fraction) → (None ≡ Some f → ⊥)
none-not-some f e = none-some f e

some-not-none : (f : List Fraction) → (Some f ≡ None → ⊥)
some-not-none f e = none-some f (sym e)

none-shown : (s : Scene) (id : ℕ) → view_of s.tree.views id ≡ None → Shows IsFrameOf s id None
none-shown s id none = λ f h. none-some h.0 (sym none ∙ h.1)

pub came_moved :
    (old new : Scene) (id : ℕ) (v : LiveView) → view_of old.tree.views id ≡ None → view_of new.tree.views id ≡ Some v
    → HasMoved IsFrameOf old new id
came_moved old new id v none some =
    (None, Some (frame_of new.values v.id), none-shown old id none, (v, some, refl), none-not-some (frame_of new.values v.id))

pub left_moved :
    (old new : Scene) (id : ℕ) (v : LiveView) → view_of old.tree.views id ≡ Some v → view_of new.tree.views id ≡ None
    → HasMoved IsFrameOf old new id
left_moved old new id v some none =
    (Some (frame_of old.values v.id), None, (v, some, refl), none-shown new id none, some-not-none (frame_of old.values v.id))
