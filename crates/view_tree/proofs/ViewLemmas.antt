-- A tree with one view more is a tree.
use Rattle.std.proofs.Common.{suc, unwrap_or, ◌≡◌, ◌≢◌, ℕ, ◌+◌, ◌<◌, ◌≤◌, ◌^◌, Bool, true, false, cond, List, [], ◌∷◌, ◌++◌, Option, None, Some, All, IsSome, length, map, nat_eq, slice_get, refl, sym, ap, subst, ◌∙◌, true≢false, arith, length-append, lit≤}
use Rattle.std.proofs.lemmas.Bool.{eqb-true}
use Rattle.std.proofs.lemmas.Grind.{common_steps}
use Rattle.std.proofs.lemmas.List.{map-append}
use Rattle.std.proofs.lemmas.List.Elements.{All-push, All-from_recursion, recursion_from_All}
use Rattle.std.proofs.lemmas.List.Folds.{find-append}
use Rattle.std.proofs.lemmas.List.Quantifiers.{all_pairs_push}
use Rattle.std.proofs.lemmas.Option.{none-some}
use Rattle.std.proofs.lemmas.Slice.Eq.{bytes_eq-Decides}
use Rattle.std.specs.List.{AllByRecursion}
use Rattle.std.specs.Option.{option_map, option_or}
use Rattle.std.specs.Str.{bytes_eq}
use Rattle.name_tables.specs.Names.{AreDistinct}
use Rattle.view_tree.specs.Stops.{IsNewView, is_full}
use Rattle.view_tree.specs.Views.{AreAbove, HasParent, IsAtDepth, IsTree, LiveView, ViewTree, view_named, view_of, window, with_view, first_tree}

-- ---- more views leave what is known of a view

some_first : {X Y : Type 0} (f : X → Y) (o p : Option X) (y : Y) → option_map f o ≡ Some y → option_map f (option_or o p) ≡ Some y
some_first f None p y h = absurd (none-some y h)
some_first f (Some x) p y h = h

pub none_first : {X : Type 0} (o p : Option X) → o ≡ None → option_or o p ≡ p
none_first o p none = rw none refl

pub HasParent-append : (views more : List LiveView) (id : ℕ) (parent : Option ℕ) → HasParent views id parent → HasParent (views ++ more) id parent
HasParent-append views more id parent h = rw (find-append (λ (v : LiveView). nat_eq v.id id) views more) (some_first (λ (v : LiveView). v.parent) (view_of views id) (view_of more id) parent h)

AreAbove-append : (views more : List LiveView) (id : ℕ) (above : List ℕ) → AreAbove views id above → AreAbove (views ++ more) id above
AreAbove-append views more id [] h = HasParent-append views more id None h
AreAbove-append views more id (parent ∷ above) h = (HasParent-append views more id (Some parent) h.0, AreAbove-append views more parent above h.1)

pub IsAtDepth-append : (views more : List LiveView) (id depth : ℕ) → IsAtDepth views id depth → IsAtDepth (views ++ more) id depth
IsAtDepth-append views more id depth h = record { above = h.above; chain = AreAbove-append views more id h.above h.chain; count = h.count }

-- ---- a view has one depth

one_parent : (views : List LiveView) (id : ℕ) (p q : Option ℕ) → HasParent views id p → HasParent views id q → p ≡ q
one_parent views id p q h g = ap (λ o. unwrap_or o None) (sym h ∙ g)

same_length : (views : List LiveView) (id : ℕ) (xs ys : List ℕ) → AreAbove views id xs → AreAbove views id ys → length xs ≡ length ys
same_length views id [] [] h g = refl
same_length views id [] (y ∷ ys) h g = absurd (none-some y (one_parent views id None (Some y) h g.0))
same_length views id (x ∷ xs) [] h g = absurd (none-some x (one_parent views id None (Some x) g h.0))
same_length views id (x ∷ xs) (y ∷ ys) h g =
    let same : x ≡ y = ap (λ o. unwrap_or o 0) (one_parent views id (Some x) (Some y) h.0 g.0) in
    ap suc (same_length views y xs ys (subst (λ p. AreAbove views p xs) same h.1) g.1)

pub IsAtDepth-unique : (views : List LiveView) (id one other : ℕ) → IsAtDepth views id one → IsAtDepth views id other → one ≡ other
IsAtDepth-unique views id one other h g = sym h.count ∙ ap (λ n. n + 1) (same_length views id h.above g.above h.chain g.chain) ∙ g.count

-- ---- a new view

-- no view has a number that is above all of them
unused : (id : ℕ) (views : List LiveView) → AllByRecursion (λ v. v.id < id) views → view_of views id ≡ None
unused id [] h = refl
unused id (v ∷ views) h =
    let other : nat_eq v.id id ≡ false = grind (arith, common_steps, h.0) in
    ap (λ b. cond b (Some v) (view_of views id)) other ∙ unused id views h.1

first_alone : (v : LiveView) → view_of (v ∷ []) v.id ≡ Some v
first_alone v =
    let same : nat_eq v.id v.id ≡ true = grind (arith, common_steps) in
    ap (λ b. cond b (Some v) None) same

pub HasParent-push : (views : List LiveView) (v : LiveView) → All (λ w. w.id < v.id) views → HasParent (views ++ v ∷ []) v.id v.parent
HasParent-push views v h =
    let none : view_of views v.id ≡ None = unused v.id views (recursion_from_All (λ w. w.id < v.id) views h) in
    rw (find-append (λ (w : LiveView). nat_eq w.id v.id) views (v ∷ []), none_first (view_of views v.id) (view_of (v ∷ []) v.id) none, first_alone v) refl

-- it stands one depth below its parent
pub IsAtDepth-push : (views : List LiveView) (v : LiveView) (parent above : ℕ) → v.parent ≡ Some parent → All (λ w. w.id < v.id) views → IsAtDepth views parent above
    → IsAtDepth (views ++ v ∷ []) v.id (above + 1)
IsAtDepth-push views v parent above child h on =
    let has : HasParent (views ++ v ∷ []) v.id (Some parent) = subst (HasParent (views ++ v ∷ []) v.id) child (HasParent-push views v h) in
    record { above = parent ∷ on.above; chain = (has, AreAbove-append views (v ∷ []) parent on.above on.chain); count = omega (arith, on.count) }

-- ---- names

differs : (name n : List ℕ) → bytes_eq name n ≡ false → n ≢ name
differs name n e same = true≢false (sym ((bytes_eq-Decides name n).1 (sym same)) ∙ e)

free : (name : List ℕ) (views : List LiveView) → view_named views name ≡ None → AllByRecursion (λ n. n ≢ name) (map (λ v. v.name) views)
free name [] h = tt
free name (v ∷ views) h = by (bytes_eq name v.name) refl h (free name views)
  where
    by : (b : Bool) → bytes_eq name v.name ≡ b → cond b (Some v) (view_named views name) ≡ None → (view_named views name ≡ None → AllByRecursion (λ n. n ≢ name) (map (λ w. w.name) views))
        → AllByRecursion (λ n. n ≢ name) (map (λ w. w.name) (v ∷ views))
    by true e g rest = absurd (none-some v (sym g))
    by false e g rest = (differs name v.name e, rest g)

pub AreDistinct-push : (names : List (List ℕ)) (name : List ℕ) → AreDistinct names → AllByRecursion (λ n. n ≢ name) names → AreDistinct (names ++ name ∷ [])
AreDistinct-push names name h others = all_pairs_push (λ a b. a ≢ b) names name h (All-from_recursion (λ n. n ≢ name) names others)

-- ---- the whole tree

first_stays : (views more : List LiveView) (v : LiveView) → slice_get views 0 ≡ Some v → slice_get (views ++ more) 0 ≡ Some v
first_stays [] more v h = absurd (none-some v h)
first_stays (w ∷ views) more v h = h

pub room : (t : ViewTree) → is_full t ≡ false → (length t.views < t.most) × (t.next < 2 ^ 29)
room t h = grind (arith, common_steps, h)

-- a live view has a number below the next one
lower : (next id : ℕ) (views : List LiveView) → AllByRecursion (λ v. v.id < next) views → IsSome (view_of views id) → id < next
lower next id [] h live = absurd (true≢false (sym live))
lower next id (v ∷ views) h live = by (nat_eq v.id id) refl live (lower next id views h.1)
  where
    by : (b : Bool) → nat_eq v.id id ≡ b → IsSome (cond b (Some v) (view_of views id)) → (IsSome (view_of views id) → id < next) → id < next
    by true same some rest = subst (λ n. n < next) (eqb-true v.id id same) h.0
    by false other some rest = rest some

pub IsTree-with_view : (t : ViewTree) (name : List ℕ) (parent : ℕ) → IsTree t → IsNewView t name parent → IsTree (with_view t name parent)
IsTree-with_view t name parent h new =
    let v : LiveView = record { id = t.next; name = name; parent = Some parent } in
    let fits : (length t.views < t.most) × (t.next < 2 ^ 29) = room t new.room in
    record {
      root = first_stays t.views (v ∷ []) window h.root;
      few = rw (length-append t.views (v ∷ [])) (omega (arith, fits.0, h.most));
      within = rw (length-append t.views (v ∷ [])) (omega (arith, fits.0));
      most = h.most;
      ids = omega (arith, fits.1);
      below = All-push (λ w. w.id < t.next + 1) t.views v (λ k d l. omega (arith, h.below k d l)) (omega arith);
      rising = all_pairs_push (λ a b. a.id < b.id) t.views v h.rising h.below;
      short = All-push (λ w. length w.name ≤ 64) t.views v h.short new.short;
      names = rw (map-append (λ (w : LiveView). w.name) t.views (v ∷ [])) (AreDistinct-push (map (λ w. w.name) t.views) name h.names (free name t.views new.free));
      depths = All-push (λ w. (depth : ℕ) × IsAtDepth (t.views ++ v ∷ []) w.id depth × (depth ≤ 32)) t.views v
          (λ k d l. ((h.depths k d l).0, IsAtDepth-append t.views (v ∷ []) _ _ (h.depths k d l).1, (h.depths k d l).2))
          (new.high.0 + 1, IsAtDepth-push t.views v parent new.high.0 refl h.below new.high.1, omega (arith, new.high.2));
      older = All-push (λ w. (p : ℕ) → w.parent ≡ Some p → p < w.id) t.views v h.older
          (λ p is. subst (λ n. n < t.next) (ap (λ o. unwrap_or o 0) is) (lower t.next parent t.views (recursion_from_All (λ w. w.id < t.next) t.views h.below) new.live));
    }

pub IsTree-window : (most : ℕ) → 0 < most → most ≤ 200 → IsTree (first_tree most)
IsTree-window most some few = record {
  root = refl;
  few = omega arith;
  within = omega (arith, some);
  most = few;
  ids = omega arith;
  below = All-from_recursion (λ (v : LiveView). v.id < 1) (window ∷ []) (omega arith, tt);
  rising = λ i j d l m. absurd (omega (arith, l, m));
  short = All-from_recursion (λ (v : LiveView). length v.name ≤ 64) (window ∷ []) (lit≤ tt, tt);
  names = λ i j d l m. absurd (omega (arith, l, m));
  depths = All-from_recursion (λ (v : LiveView). (depth : ℕ) × IsAtDepth (window ∷ []) v.id depth × (depth ≤ 32)) (window ∷ []) ((1, record { above = []; chain = refl; count = refl }, omega arith), tt);
  older = All-from_recursion (λ (v : LiveView). (p : ℕ) → v.parent ≡ Some p → p < v.id) (window ∷ []) ((λ p is. absurd (none-some p is)), tt);
}
