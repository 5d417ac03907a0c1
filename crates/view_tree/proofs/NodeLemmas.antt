-- What is kept under the names, seen as a tree.
use Rattle.std.proofs.Common.{◌≡◌, ℕ, ◌+◌, Bool, true, false, cond, not, List, [], ◌∷◌, ◌++◌, Option, None, Some, All, IfNone, IfSome, codes, find, get_or, is_some, length, map, nat_eq, position, slice_get, refl, sym, ap, subst, ◌∙◌, ◌<◌, ◌≤◌, ◌-◌, arith, add-one, take, length-append}
use Rattle.std.proofs.lemmas.Bool.{eqb-true}
use Rattle.std.proofs.lemmas.Grind.{common_steps}
use Rattle.std.proofs.lemmas.List.{map-append, length-map, take-map}
use Rattle.std.proofs.lemmas.List.Folds.{find_at}
use Rattle.std.proofs.lemmas.List.Elements.{All-from_recursion, All-push, All-take, recursion_from_All}
use Rattle.std.proofs.lemmas.List.Quantifiers.{position-Some}
use Rattle.std.proofs.lemmas.Option.{none-some, slice_get-get_or, slice_get_past}
use Rattle.std.proofs.Math.Seq.{take-append_seam}
use Rattle.std.specs.List.{AllByRecursion, position_or_len}
use Rattle.std.specs.Map.{lookup, values_of}
use Rattle.std.specs.Option.{option_map}
use Rattle.std.specs.Str.{bytes_eq}
use Rattle.name_tables.specs.Names.{names_of, place_of}
use Rattle.view_tree.specs.Nodes.{AreKept, live_view, kept_tree}
use Rattle.view_tree.specs.Views.{IsAtDepth, IsTree, LiveView, ViewTree, view_named, view_of, window, with_view}
use Rattle.view_tree.specs.Stops.{IsNewView}
use Rattle.view_tree.proofs.ViewLemmas.{IsAtDepth-append, IsAtDepth-unique, IsAtDepth-push, IsTree-window, IsTree-with_view}
use Rattle.view_tree.specs.declared.tree.Node.{Node}

-- ---- searches

-- what is found stands at the first place
pub find-position : {X : Type 0} (p : X → Bool) (xs : List X) (place : ℕ) (d : X) → position p xs ≡ Some place → find p xs ≡ Some (get_or xs place d)
find-position p xs place d h =
    let first : position_or_len p xs ≡ place = grind (arith, common_steps, h) in
    find_at p xs ∙ ap (slice_get xs) first ∙ slice_get-get_or xs place d (position-Some p xs place d h).0

pub find-nowhere : {X : Type 0} (p : X → Bool) (xs : List X) → position p xs ≡ None → find p xs ≡ None
find-nowhere p xs h =
    let past : length xs ≤ position_or_len p xs = grind (arith, common_steps, h) in
    find_at p xs ∙ slice_get_past xs (position_or_len p xs) past

-- what a look-up by name finds belongs to the view of that name
pub lookup-live_view : {B : Type 0} (f : Node → B) (g : LiveView → B) → ((e : List ℕ × Node) → f e.1 ≡ g (live_view e)) → (name : List ℕ) (es : List (List ℕ × Node))
    → option_map f (lookup (bytes_eq name) es) ≡ option_map g (view_named (map live_view es) name)
lookup-live_view f g same name [] = refl
lookup-live_view f g same name (e ∷ es) =
    elim (bytes_eq name e.0) as (λ b. option_map f (cond b (Some e.1) (lookup (bytes_eq name) es)) ≡ option_map g (cond b (Some (live_view e)) (view_named (map live_view es) name))) [
      | true ↦ ap Some (same e)
      | false ↦ lookup-live_view f g same name es
    ]

-- and what a search by number finds to the view of that number
pub find-live_view : {B : Type 0} (f : Node → B) (g : LiveView → B) → ((e : List ℕ × Node) → f e.1 ≡ g (live_view e)) → (id : ℕ) (es : List (List ℕ × Node))
    → option_map f (find (λ n. nat_eq n.id.0 id) (values_of es)) ≡ option_map g (view_of (map live_view es) id)
find-live_view f g same id [] = refl
find-live_view f g same id (e ∷ es) =
    elim (nat_eq e.1.id.0 id) as (λ b. option_map f (cond b (Some e.1) (find (λ n. nat_eq n.id.0 id) (values_of es))) ≡ option_map g (cond b (Some (live_view e)) (view_of (map live_view es) id))) [
      | true ↦ ap Some (same e)
      | false ↦ find-live_view f g same id es
    ]

module _ {X Y Z : Type 0} (f : X → Y) (g : Z → Y) where
  -- a node that was found, or not, tells as much of the view
  pub found : (o : Option X) (p : Option Z) → option_map f o ≡ option_map g p → IfSome o (λ x. option_map g p ≡ Some (f x))
  found None p h = tt
  found (Some x) p h = sym h

  pub missing : (o : Option X) (p : Option Z) → option_map f o ≡ option_map g p → IfNone o (p ≡ None)
  missing None None h = refl
  missing None (Some z) h = absurd (none-some (g z) h)
  missing (Some x) p h = tt

  pub is_some-same : (o : Option X) (p : Option Z) → option_map f o ≡ option_map g p → is_some o ≡ is_some p
  is_some-same None None h = refl
  is_some-same None (Some z) h = absurd (none-some (g z) h)
  is_some-same (Some x) None h = absurd (none-some (f x) (sym h))
  is_some-same (Some x) (Some z) h = refl

-- the node of a number has the depth of that view
depth_by : (views : List LiveView) (id : ℕ) (es : List (List ℕ × Node)) → AllByRecursion (λ e. IsAtDepth views e.1.id.0 e.1.depth) es
    → IfSome (find (λ n. nat_eq n.id.0 id) (values_of es)) (λ n. IsAtDepth views id n.depth)
depth_by views id [] h = tt
depth_by views id (e ∷ es) h = by (nat_eq e.1.id.0 id) refl (depth_by views id es h.1)
  where
    by : (b : Bool) → nat_eq e.1.id.0 id ≡ b → IfSome (find (λ n. nat_eq n.id.0 id) (values_of es)) (λ n. IsAtDepth views id n.depth)
        → IfSome (cond b (Some e.1) (find (λ n. nat_eq n.id.0 id) (values_of es))) (λ n. IsAtDepth views id n.depth)
    by true same rest = subst (λ i. IsAtDepth views i e.1.depth) (eqb-true _ _ same) h.0
    by false other rest = rest

pub IsAtDepth-find : (views : List LiveView) (id : ℕ) (es : List (List ℕ × Node)) → All (λ e. IsAtDepth views e.1.id.0 e.1.depth) es
    → IfSome (find (λ n. nat_eq n.id.0 id) (values_of es)) (λ n. IsAtDepth views id n.depth)
IsAtDepth-find views id es h = depth_by views id es (recursion_from_All (λ e. IsAtDepth views e.1.id.0 e.1.depth) es h)

-- ---- one entry more

module _ (es : List (List ℕ × Node)) (next most : ℕ) (name : List ℕ) (node : Node) (parent : ℕ) (id : node.id.0 ≡ next) (below : option_map (λ p. p.0) node.parent ≡ Some parent) where
  entry : List ℕ × Node
  entry = (name, node)

  same_views : map live_view (es ++ (name, node) ∷ []) ≡ (with_view (kept_tree es next most) name parent).views
  same_views = map-append live_view es ((name, node) ∷ []) ∙ ap (λ v. map live_view es ++ v ∷ []) same
    where
      same : live_view (name, node) ≡ record { id = next; name = name; parent = Some parent }
      same = λ i. record { id = id i; name = name; parent = below i }

  pub kept_tree-push : kept_tree (es ++ (name, node) ∷ []) (next + 1) most ≡ with_view (kept_tree es next most) name parent
  kept_tree-push = ap (λ views. record { views = views; next = next + 1; most = most }) same_views

  pub AreKept-push : (above : ℕ) → AreKept es next most → IsNewView (kept_tree es next most) name parent → IsAtDepth (map live_view es) parent above → node.depth ≡ above + 1
      → AreKept (es ++ (name, node) ∷ []) (next + 1) most
  AreKept-push above kept new on depth =
      let views : List LiveView = map live_view es in
      let highest : All (λ w. w.id < node.id.0) views = subst (λ n. All (λ w. w.id < n) views) (sym id) kept.tree.below in
      let pushed : IsAtDepth (views ++ live_view (name, node) ∷ []) node.id.0 node.depth =
      subst (IsAtDepth (views ++ live_view (name, node) ∷ []) node.id.0) (sym depth) (IsAtDepth-push views (live_view (name, node)) parent above below highest on) in
      record {
        tree = subst IsTree (sym kept_tree-push) (IsTree-with_view (kept_tree es next most) name parent kept.tree new);
        depths = rw (map-append live_view es ((name, node) ∷ []))
            (All-push (λ e. IsAtDepth (views ++ live_view (name, node) ∷ []) e.1.id.0 e.1.depth) es (name, node)
            (λ k d l. IsAtDepth-append views (live_view (name, node) ∷ []) _ _ (kept.depths k d l)) pushed);
      }

pub AreKept-window : (most : ℕ) → 0 < most → most ≤ 200 → AreKept ((codes "window", record { id = record { 0 = 0 }; parent = None; depth = 1 }) ∷ []) 1 most
AreKept-window most some few = record {
  tree = IsTree-window most some few;
  depths = All-from_recursion (λ (e : List ℕ × Node). IsAtDepth (window ∷ []) e.1.id.0 e.1.depth) ((codes "window", record { id = record { 0 = 0 }; parent = None; depth = 1 }) ∷ [])
      (record { above = []; chain = refl; count = refl }, tt);
}

-- a name that no view has stands nowhere
first_past : (name : List ℕ) (es : List (List ℕ × Node)) → view_named (map live_view es) name ≡ None → length es ≤ position_or_len (bytes_eq name) (names_of es)
first_past name [] none = omega arith
first_past name (e ∷ es) none =
    rw (← add-one (length es)) (elim (bytes_eq name e.0) as (λ b. cond b (Some (live_view e)) (view_named (map live_view es) name) ≡ None → length es + 1 ≤ cond (not b) (1 + position_or_len (bytes_eq name) (names_of es)) 0) [
      | true ↦ λ h. absurd (none-some (live_view e) (sym h))
      | false ↦ λ h. omega (arith, first_past name es h)
    ] none)

pub unnamed : (name : List ℕ) (es : List (List ℕ × Node)) → view_named (map live_view es) name ≡ None → place_of (names_of es) name ≡ None
unnamed name es none =
    let past : length es ≤ position_or_len (bytes_eq name) (names_of es) = first_past name es none in
    grind (arith, common_steps, past)

-- ---- the last entry less

-- each view has the depth that it had
depths-back : (views later : List LiveView) (es : List (List ℕ × Node)) → AllByRecursion (λ w. (depth : ℕ) × IsAtDepth views w.id depth × (depth ≤ 32)) (map live_view es)
    → AllByRecursion (λ e. IsAtDepth (views ++ later) e.1.id.0 e.1.depth) es → AllByRecursion (λ e. IsAtDepth views e.1.id.0 e.1.depth) es
depths-back views later [] h g = tt
depths-back views later (e ∷ es) h g = (
  subst (IsAtDepth views e.1.id.0)
      (IsAtDepth-unique (views ++ later) e.1.id.0 h.0.0 e.1.depth (IsAtDepth-append views later e.1.id.0 h.0.0 h.0.1) g.0) h.0.1,
  depths-back views later es h.1 g.1,
)

module _ (es : List (List ℕ × Node)) (next most : ℕ) (t : ViewTree) (later : List LiveView) (count : ℕ) (is : kept_tree es next most ≡ record t { views = t.views ++ later; next = t.next + count }) (counted : length later ≡ count) where
  grown_views : map live_view es ≡ t.views ++ later
  grown_views = ap (λ (u : ViewTree). u.views) is

  grown_count : length es ≡ length t.views + count
  grown_count = omega (arith, length-map es live_view, ap length grown_views, length-append t.views later, counted)

  views-cut : map live_view (take (length es - count) es) ≡ t.views
  views-cut =
      let fewer : length es - count ≡ length t.views = omega (arith, grown_count) in
      sym (take-map live_view (length es - count) es) ∙ ap (take (length es - count)) grown_views ∙ ap (λ n. take n (t.views ++ later)) fewer ∙ take-append_seam t.views later

  next-cut : next - count ≡ t.next
  next-cut =
      let more : next ≡ t.next + count = ap (λ (u : ViewTree). u.next) is in
      omega (arith, more)

  most-cut : most ≡ t.most
  most-cut = ap (λ (u : ViewTree). u.most) is

  pub kept_tree-cut : kept_tree (take (length es - count) es) (next - count) most ≡ t
  kept_tree-cut = λ i. record { views = views-cut i; next = next-cut i; most = most-cut i }

  pub AreKept-cut : IsTree t → AreKept es next most → AreKept (take (length es - count) es) (next - count) most
  AreKept-cut whole kept =
      let left : List (List ℕ × Node) = take (length es - count) es in
      let depths : All (λ w. (depth : ℕ) × IsAtDepth t.views w.id depth × (depth ≤ 32)) (map live_view left) =
      subst (All (λ w. (depth : ℕ) × IsAtDepth t.views w.id depth × (depth ≤ 32))) (sym views-cut) whole.depths in
      let were : All (λ e. IsAtDepth (t.views ++ later) e.1.id.0 e.1.depth) left =
      All-take (λ e. IsAtDepth (t.views ++ later) e.1.id.0 e.1.depth) (length es - count) es
      (subst (λ (views : List LiveView). All (λ e. IsAtDepth views e.1.id.0 e.1.depth) es) grown_views kept.depths) in
      let are : All (λ e. IsAtDepth t.views e.1.id.0 e.1.depth) left =
      All-from_recursion (λ e. IsAtDepth t.views e.1.id.0 e.1.depth) left
      (depths-back t.views later left
      (recursion_from_All (λ w. (depth : ℕ) × IsAtDepth t.views w.id depth × (depth ≤ 32)) (map live_view left) depths)
      (recursion_from_All (λ e. IsAtDepth (t.views ++ later) e.1.id.0 e.1.depth) left were)) in
      record {
        tree = subst IsTree (sym kept_tree-cut) whole;
        depths = subst (λ (views : List LiveView). All (λ e. IsAtDepth views e.1.id.0 e.1.depth) left) (sym views-cut) are;
      }
