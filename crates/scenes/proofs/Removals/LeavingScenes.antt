-- The problems of drafts without something, and what a scene keeps of them.
use Rattle.std.proofs.Common.{◌≡◌, ◌≢◌, inl, inr, Some, ℕ, ◌^◌, ◌<◌, Bool, true, false, cond, not, nat_eq, List, [], ◌∷◌, length, map, filter, All, AllPairs, IsPermutation, refl, sym, ap, ◌∙◌, subst, arith}
use Rattle.std.proofs.lemmas.List.Elements.{All-filter, All-from_recursion, All-map, All-weaker, recursion_from_All}
use Rattle.std.specs.List.{Any, Contains, list_any, AllByRecursion as Each}
use Rattle.problem_core.specs.declared.parts.Stay.{Stay}
use Rattle.problem_core.specs.Layout.{Row, Problem}
use Rattle.view_tree.specs.Views.{IsTree, LiveView, ViewTree}
use Rattle.view_tree.specs.Drops.{AreGoing, is_among}
use Rattle.view_tree.specs.Drops as drops
use Rattle.view_tree.proofs.DropLemmas.{HasParent-left, window-stays, shorter}
use Rattle.compile_parts.specs.Meaning.{MetricList}
use Rattle.layout_solver.specs.Layouts.{Layout, IsKeptLayout, stays_at}
use Rattle.layout_solver.specs.Removals.{CanLeave, Leaving, stood, with_removed, other_stays}
use Rattle.held_items.specs.Items.{Item, OfWindow, OfView, Sized, OfLine, Suggested, Intrinsic, AreRows}
use Rattle.scenes.specs.Scene.{moved}
use Rattle.held_items.specs.Leaving.{attributes_in, goes_with, numbers_of, staying}
use Rattle.scenes.specs.Leaving.{without_items, without_views}
use Rattle.scenes.specs.Steps.{IsProblemOf}
use Rattle.scenes.proofs.Engines.Requests.{moved-attrs, rows_is, stays_is}
use Rattle.held_items.specs.Attributes.{IsClose, all_attributes}
use Rattle.held_items.specs.Kept.{HasSmallViews, IsItem, IsNamed}
use Rattle.held_items.specs.declared.item.leaving.Leaver.{Leaver}
use Rattle.held_items.specs.declared.item.leaving.Leaver.TheVariants as leaver
use Rattle.scenes.specs.Drafts.{MayLeave}
use Rattle.scenes.specs.Kept.{IsKept, scene_at}
use Rattle.scenes.proofs.Removals.LeavingProblems.{apart-from-up, ids-up, no-stays-leave, numbers-held, numbers-up, rows-can}
use Rattle.layout_solver.proofs.Posed.Left.{without-is}
use Rattle.held_items.proofs.Removals.LeavingRows.{agree, keeps, rows-stay, up-pairs}
use Rattle.scenes.proofs.Removals.LeavingViews.{attributes-up, gone-up, have-stays, left-attributes, names-none, rows-covered}
use Rattle.layout_solver.proofs.Posed.Moves.{moved-is}
use Rattle.held_items.proofs.HeldRows.Ranks.{HasRank}
use Rattle.scenes.proofs.Engines.Reached.{settled}
use Rattle.scenes.proofs.Engines.Wholes.{IsSettled}
use Rattle.corner_view.proofs.Facts.{made_problem}
use Rattle.scenes.specs.declared.scene.past.Setting.{Setting}

-- ---- rows leave alone, as those made_problem a group or made_problem a suggestion

module _ (tree : ViewTree) (ms : MetricList) (held : List Item) (setting : Setting) (l : Layout) (kept : IsKept (scene_at tree ms held setting l)) (sound : IsKeptLayout l) where
  is : IsSettled l.problem l.values
  is = settled l sound

  moves : moved l.problem.stays l.values ≡ stays_at l.values
  moves = moved-is l.problem.stays l.values is.attributes is.apart

  module _ (goes : Item → Bool) where
    abbrev group_leaving : Leaving
    group_leaving = record { rows = numbers_of goes held; attrs = [] }

    pub group-can : CanLeave (record { rows = numbers_of goes held; attrs = [] }) l.problem
    group-can = rows-can goes ms held l.problem kept.are_rows is.whole.rising

    group-rows : AreRows ms (staying goes held) (filter (keeps (numbers_of goes held)) l.problem.rows)
    group-rows = rows-stay goes ms (numbers_of goes held) held l.problem.rows kept.are_rows (agree goes held (ids-up goes ms held l.problem kept.are_rows is.whole.rising))

    group-problem : with_removed l group_leaving ≡ made_problem (filter (keeps (numbers_of goes held)) l.problem.rows) (moved l.problem.stays l.values)
    group-problem = without-is group_leaving (stood l) ∙ ap (made_problem (filter (keeps (numbers_of goes held)) l.problem.rows)) (no-stays-leave (stays_at l.values) ∙ sym moves)

    -- their numbers rise
    pub group-rises : AllPairs (λ a b. a < b) (numbers_of goes held)
    group-rises = up-pairs (numbers_of goes held) (numbers-up goes ms held l.problem kept.are_rows is.whole.rising)

    pub group-poses : (p : Problem) → p ≡ with_removed l group_leaving → IsProblemOf (without_items (scene_at tree ms held setting l) goes) p
    group-poses p e = (subst (AreRows ms (staying goes held)) (sym (rows_is p _ (e ∙ group-problem))) group-rows, stays_is p _ (e ∙ group-problem))

    module _ (items : List Item) (new : Layout) (done : new.problem ≡ with_removed l group_leaving) (items_are : items ≡ staying goes held) where
      rows_are : new.problem.rows ≡ filter (keeps (numbers_of goes held)) l.problem.rows
      rows_are = rows_is new.problem _ (done ∙ group-problem)

      stays_are : new.problem.stays ≡ moved l.problem.stays l.values
      stays_are = stays_is new.problem _ (done ∙ group-problem)

      are : AreRows ms (staying goes held) new.problem.rows
      are = subst (AreRows ms (staying goes held)) (sym rows_are) group-rows

      pub group-kept : IsKept (scene_at tree ms items setting new)
      group-kept =
          subst (λ (hs : List Item). IsKept (scene_at tree ms hs setting new)) (sym items_are)
          (record {
            are_rows = are;
            each = All-filter (λ item. not (goes item)) IsItem held kept.each;
            named = All-filter (λ item. not (goes item)) (IsNamed tree.views) held kept.named;
            next = kept.next;
            top = kept.top;
            counted = record {
              stays = subst (IsPermutation (all_attributes tree.views)) (sym (ap (map (λ (s : Stay). s.attr)) stays_are ∙ moved-attrs l.problem.stays l.values)) kept.counted.stays;
              below = subst (All (λ r. r.id < setting.next_row)) (sym rows_are) (All-filter (keeps (numbers_of goes held)) (λ r. r.id < setting.next_row) l.problem.rows kept.counted.below);
              ranks = subst (All HasRank) (sym rows_are) (All-filter (keeps (numbers_of goes held)) HasRank l.problem.rows kept.counted.ranks);
              few = omega (arith, ap length rows_are, shorter (keeps (numbers_of goes held)) l.problem.rows, kept.counted.few);
            };
          })

-- ---- views leave, with their rows and attributes

-- their numbers are small
gone-small : (t : ViewTree) (root : ℕ) (gone : List ℕ) → IsTree t → AreGoing t.views root gone → All (λ id. id < 2 ^ 29) gone
gone-small t root gone whole going =
    subst (All (λ id. id < 2 ^ 29)) (sym going.order)
    (All-map (λ id. id < 2 ^ 29) (λ (v : LiveView). v.id) (filter (λ v. is_among gone v.id) t.views)
    (All-filter (λ v. is_among gone v.id) (λ v. v.id < 2 ^ 29) t.views
    (All-weaker (λ (v : LiveView). v.id < t.next) (λ v. v.id < 2 ^ 29) (λ v below. omega (arith, below, whole.ids)) t.views whole.below)))

pub small-views : (t : ViewTree) (it : Leaver) → IsTree t → MayLeave t.views it → HasSmallViews it
small-views t (leaver.Group name) whole may = tt
small-views t (leaver.Views gone) whole (root, below, going) = gone-small t root gone.items whole going
small-views t (leaver.Suggestion view word) whole may = tt
small-views t (leaver.Intrinsic view) whole may = tt

-- a line that stays is close to views that stay
module _ (views : List LiveView) (gone : List ℕ) where
  abbrev left_views : List LiveView
  left_views = filter (λ v. not (is_among gone v.id)) views

  close-left : (vs : List ℕ) (id : ℕ) → list_any (λ g. list_any (λ v. nat_eq v g) vs) gone ≡ false → IsClose views vs id → IsClose (filter (λ v. not (is_among gone v.id)) views) vs id
  close-left vs id none (inl named) = inl named
  close-left vs id none (inr (child, named, has)) = inr (child, named, HasParent-left (is_among gone) views child (Some id) (names-none vs gone child none named) has)

  named-left : (item : Item) → goes_with gone item ≡ false → IsNamed views item → IsNamed (filter (λ v. not (is_among gone v.id)) views) item
  named-left OfWindow stays is = is
  named-left (OfView first id) stays is = is
  named-left (Sized first width height) stays is = is
  named-left (OfLine name line) stays is = λ k d within j e inside. (let owner = is k d within j e inside in (owner.0, close-left line.views owner.0 stays owner.1, owner.2))
  named-left (Suggested s) stays is = is
  named-left (Intrinsic s) stays is = is

  each-named-left : (held : List Item) → Each (IsNamed views) held → Each (IsNamed (filter (λ v. not (is_among gone v.id)) views)) (staying (goes_with gone) held)
  each-named-left [] h = tt
  each-named-left (item ∷ held) h = by (goes_with gone item) refl (each-named-left held h.1)
    where
      by : (b : Bool) → goes_with gone item ≡ b → Each (IsNamed (filter (λ v. not (is_among gone v.id)) views)) (staying (goes_with gone) held) → Each (IsNamed (filter (λ v. not (is_among gone v.id)) views)) (cond (not (goes_with gone item)) (item ∷ staying (goes_with gone) held) (staying (goes_with gone) held))
      by true e rest = subst (λ b. Each (IsNamed (filter (λ v. not (is_among gone v.id)) views)) (cond (not b) (item ∷ staying (goes_with gone) held) (staying (goes_with gone) held))) (sym e) rest
      by false e rest = subst (λ b. Each (IsNamed (filter (λ v. not (is_among gone v.id)) views)) (cond (not b) (item ∷ staying (goes_with gone) held) (staying (goes_with gone) held))) (sym e) (named-left item e h.0, rest)

  pub all-named-left : (held : List Item) → All (IsNamed views) held → All (IsNamed (filter (λ v. not (is_among gone v.id)) views)) (staying (goes_with gone) held)
  all-named-left held h = All-from_recursion (IsNamed (filter (λ v. not (is_among gone v.id)) views)) (staying (goes_with gone) held) (each-named-left held (recursion_from_All (IsNamed views) held h))

module _ (tree : ViewTree) (ms : MetricList) (held : List Item) (setting : Setting) (l : Layout) (kept : IsKept (scene_at tree ms held setting l)) (sound : IsKeptLayout l)
    (whole : IsTree tree) (root : ℕ) (gone : List ℕ) (below : root ≢ 0) (going : AreGoing tree.views root gone) where
  is-settled : IsSettled l.problem l.values
  is-settled = settled l sound

  moves-to : moved l.problem.stays l.values ≡ stays_at l.values
  moves-to = moved-is l.problem.stays l.values is-settled.attributes is-settled.apart

  window : is_among gone 0 ≡ false
  window = window-stays tree.views root gone going below whole.root

  abbrev views_leaving : Leaving
  views_leaving = record { rows = numbers_of (goes_with gone) held; attrs = attributes_in gone }

  covers : (rows : List Row) → AreRows ms held rows → All (λ r. Any (λ t. Contains (attributes_in gone) t.attr) r.terms → Contains (numbers_of (goes_with gone) held) r.id) rows
  covers rows are =
      All-from_recursion (λ r. Any (λ t. Contains (attributes_in gone) t.attr) r.terms → Contains (numbers_of (goes_with gone) held) r.id) rows
      (rows-covered tree.views root gone going window ms held rows are (recursion_from_All (IsNamed tree.views) held kept.named))

  can-leave : (stays : List Stay) → IsPermutation (all_attributes tree.views) (map (λ s. s.attr) stays) → CanLeave (record { rows = numbers_of (goes_with gone) held; attrs = attributes_in gone }) (record { rows = l.problem.rows; stays = stays })
  can-leave stays attrs = record {
    held = numbers-held (goes_with gone) ms held l.problem kept.are_rows is-settled.whole.rising;
    stays = have-stays tree.views root gone stays going attrs;
    rows_apart = apart-from-up (numbers_of (goes_with gone) held) (numbers-up (goes_with gone) ms held l.problem kept.are_rows is-settled.whole.rising);
    attrs_apart = apart-from-up (attributes_in gone) (attributes-up gone (gone-up tree.views root gone going whole.rising));
    covered = covers l.problem.rows kept.are_rows;
  }

  moved-counted : IsPermutation (all_attributes tree.views) (map (λ s. s.attr) (moved l.problem.stays l.values))
  moved-counted = subst (IsPermutation (all_attributes tree.views)) (sym (moved-attrs l.problem.stays l.values)) kept.counted.stays

  pub views-can : CanLeave (record { rows = numbers_of (goes_with gone) held; attrs = attributes_in gone }) l.problem
  views-can = can-leave l.problem.stays kept.counted.stays

  view-rows : AreRows ms (staying (goes_with gone) held) (filter (keeps (numbers_of (goes_with gone) held)) l.problem.rows)
  view-rows = rows-stay (goes_with gone) ms (numbers_of (goes_with gone) held) held l.problem.rows kept.are_rows (agree (goes_with gone) held (ids-up (goes_with gone) ms held l.problem kept.are_rows is-settled.whole.rising))

  views-problem : with_removed l views_leaving ≡ made_problem (filter (keeps (numbers_of (goes_with gone) held)) l.problem.rows) (other_stays (attributes_in gone) (moved l.problem.stays l.values))
  views-problem = without-is views_leaving (stood l) ∙ ap (λ ss. made_problem (filter (keeps (numbers_of (goes_with gone) held)) l.problem.rows) (other_stays (attributes_in gone) ss)) (sym moves-to)

  pub views-rise : AllPairs (λ a b. a < b) (numbers_of (goes_with gone) held)
  views-rise = up-pairs (numbers_of (goes_with gone) held) (numbers-up (goes_with gone) ms held l.problem kept.are_rows is-settled.whole.rising)

  pub views-pose : (p : Problem) → p ≡ with_removed l views_leaving → IsProblemOf (without_views (scene_at tree ms held setting l) gone) p
  views-pose p e = (subst (AreRows ms (staying (goes_with gone) held)) (sym (rows_is p _ (e ∙ views-problem))) view-rows, stays_is p _ (e ∙ views-problem))

  module _ (items : List Item) (new : Layout) (done : new.problem ≡ with_removed l views_leaving) (items_are : items ≡ staying (goes_with gone) held) where
    new_rows : new.problem.rows ≡ filter (keeps (numbers_of (goes_with gone) held)) l.problem.rows
    new_rows = rows_is new.problem _ (done ∙ views-problem)

    new_stays : new.problem.stays ≡ other_stays (attributes_in gone) (moved l.problem.stays l.values)
    new_stays = stays_is new.problem _ (done ∙ views-problem)

    are-rows : AreRows ms (staying (goes_with gone) held) new.problem.rows
    are-rows = subst (AreRows ms (staying (goes_with gone) held)) (sym new_rows) view-rows

    pub views-kept : IsKept (scene_at (drops.without tree gone) ms items setting new)
    views-kept =
        subst (λ (hs : List Item). IsKept (scene_at (drops.without tree gone) ms hs setting new)) (sym items_are)
        (record {
          are_rows = are-rows;
          each = All-filter (λ item. not (goes_with gone item)) IsItem held kept.each;
          named = all-named-left tree.views gone held kept.named;
          next = kept.next;
          top = kept.top;
          counted = record {
            stays = subst (λ (ss : List Stay). IsPermutation (all_attributes (filter (λ v. not (is_among gone v.id)) tree.views)) (map (λ s. s.attr) ss)) (sym new_stays)
                (left-attributes gone tree.views (moved l.problem.stays l.values) moved-counted);
            below = subst (All (λ r. r.id < setting.next_row)) (sym new_rows) (All-filter (keeps (numbers_of (goes_with gone) held)) (λ r. r.id < setting.next_row) l.problem.rows kept.counted.below);
            ranks = subst (All HasRank) (sym new_rows) (All-filter (keeps (numbers_of (goes_with gone) held)) HasRank l.problem.rows kept.counted.ranks);
            few = omega (arith, ap length new_rows, shorter (keeps (numbers_of (goes_with gone) held)) l.problem.rows, kept.counted.few);
          };
        })
