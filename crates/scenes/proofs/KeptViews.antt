-- A scene with the stays of a view first: the rows and the values are as before.
use Rattle.std.proofs.Common.{◌≡◌, ◌≢◌, ◌∙◌, ℕ, ◌+◌, ◌*◌, ◌^◌, ◌<◌, Bool, true, false, cond, bytes_eq, List, [], ◌∷◌, map, length, get_or, Some, sym, ap, subst, arith, All, AllPairs, IsPermutation}
use Rattle.std.proofs.lemmas.Option.{none-some, same_Some}
use Rattle.std.proofs.lemmas.List.Elements.{All-head, All-tail, Contains-get_or}
use Rattle.std.proofs.lemmas.List.Sorted.{Contains-permutation, IsPermutation-map, IsPermutation-trans}
use Rattle.frac_core.specs.Fraction.{Fraction}
use Rattle.problem_core.specs.declared.parts.Stay.{Stay}
use Rattle.problem_core.specs.Layout.{HasStay, Problem}
use Rattle.view_tree.specs.Views.{IsTree, LiveView, ViewTree, view_named}
use Rattle.compile_parts.specs.Meaning.{MetricList}
use Rattle.stay_orders.specs.Orders.{with_front}
use Rattle.layout_solver.specs.Keeping.{with_kept as with_first}
use Rattle.layout_solver.specs.Layouts.{IsKeptLayout, Layout, stays_at}
use Rattle.layout_solver.proofs.FrontStays.{front_permutes}
use Rattle.held_items.specs.Attributes.{all_attributes, view_attributes}
use Rattle.held_items.specs.Items.{Item, AreRows}
use Rattle.held_items.proofs.Lists.{four-rising}
use Rattle.held_items.proofs.HeldRows.FormTerms.{found-among}
use Rattle.held_items.proofs.HeldRows.Ranks.{HasRank}
use Rattle.scenes.specs.Drafts.{IsThere}
use Rattle.scenes.specs.Kept.{IsKept, scene_at}
use Rattle.scenes.specs.Scene.{moved, with_kept}
use Rattle.scenes.specs.Steps.{IsProblemOf}
use Rattle.scenes.specs.declared.scene.past.Setting.{Setting}
use Rattle.scenes.proofs.Engines.Posed.{moves}
use Rattle.scenes.proofs.Engines.Requests.{moved-attrs}
use Rattle.scenes.proofs.Views.Places.{stay-of}

abbrev pair : ℕ → Fraction → ℕ × Fraction
pair n f = (n, f)

-- the attributes of a view differ
pub four-apart : (id : ℕ) → AllPairs (λ a b. a ≢ b) (view_attributes id)
four-apart id i j d less within e =
    let up = four-rising (λ (n : ℕ). n) (4 * id + 1) (4 * id + 2) (4 * id + 3) (4 * id + 4) (omega arith) (omega arith) (omega arith) i j d less within in omega (arith, up, e)

-- a view that is found has a number below the bound
pub named-small : (views : List LiveView) (name : List ℕ) (v : LiveView) (n : ℕ) → All (λ w. w.id < n) views → view_named views name ≡ Some v → v.id < n
named-small [] name v n all found = absurd (none-some v found)
named-small (w ∷ views) name v n all found = by (named-small views name v n (All-tail (λ (u : LiveView). u.id < n) w views all)) (bytes_eq name w.name) found
  where
    by : (view_named views name ≡ Some v → v.id < n) → (b : Bool) → cond b (Some w) (view_named views name) ≡ Some v → v.id < n
    by rest true here = subst (λ (u : LiveView). u.id < n) (same_Some w v here) (All-head (λ (u : LiveView). u.id < n) w views all)
    by rest false later = rest later

-- the attributes of a view have stays
pub view-held : (views : List LiveView) (stays : List Stay) (name : List ℕ) (view : LiveView) (id : ℕ) → IsPermutation (all_attributes views) (map (λ s. s.attr) stays) → view_named views name ≡ Some view → id ≡ view.id → All (HasStay stays) (view_attributes id)
view-held views stays name view id same found e =
    subst (λ (n : ℕ). All (HasStay stays) (view_attributes n)) (sym e)
    (λ k d within. stay-of stays (get_or (view_attributes view.id) k d)
    (Contains-permutation (all_attributes views) (map (λ s. s.attr) stays) (get_or (view_attributes view.id) k d) same
    (found-among views name view (get_or (view_attributes view.id) k d) found (Contains-get_or (view_attributes view.id) k d within))))

module _ (tree : ViewTree) (ms : MetricList) (held : List Item) (setting : Setting) (l : Layout) (kept : IsKept (scene_at tree ms held setting l)) (sound : IsKeptLayout l) (id : ℕ) where
  -- its stays move with the others
  order-is : with_front (view_attributes id) (moved l.problem.stays l.values) ≡ with_front (view_attributes id) (stays_at l.values)
  order-is = ap (with_front (view_attributes id)) (moves tree ms held setting l kept sound)

  pub keep-there : IsThere (scene_at tree ms held setting l) id → All (HasStay l.problem.stays) (view_attributes id)
  keep-there (name, (view, found, e)) = view-held tree.views l.problem.stays name view id kept.counted.stays found e

  pub keep-small : IsTree tree → IsThere (scene_at tree ms held setting l) id → id < 2 ^ 29
  keep-small whole (name, (view, found, e)) = (let below : view.id < tree.next = named-small tree.views name view tree.next whole.below found in omega (arith, e, below, whole.ids))

  pub keep-poses : (p : Problem) → p ≡ with_first l (view_attributes id) → IsProblemOf (with_kept (scene_at tree ms held setting l) id) p
  keep-poses p e = (
    subst (AreRows ms held) (sym (ap (λ (q : Problem). q.rows) e)) kept.are_rows,
    ap (λ (q : Problem). q.stays) e ∙ sym order-is,
  )

  module _ (new : Layout) (done : new.problem ≡ with_first l (view_attributes id)) where
    new-rows : new.problem.rows ≡ l.problem.rows
    new-rows = ap (λ (p : Problem). p.rows) done

    new-stays : new.problem.stays ≡ with_front (view_attributes id) (moved l.problem.stays l.values)
    new-stays = ap (λ (p : Problem). p.stays) done ∙ sym order-is

    new-counted : IsPermutation (all_attributes tree.views) (map (λ s. s.attr) new.problem.stays)
    new-counted =
        subst (λ (ss : List Stay). IsPermutation (all_attributes tree.views) (map (λ s. s.attr) ss)) (sym new-stays)
        (IsPermutation-trans (all_attributes tree.views) (map (λ s. s.attr) (moved l.problem.stays l.values)) (map (λ s. s.attr) (with_front (view_attributes id) (moved l.problem.stays l.values)))
        (subst (IsPermutation (all_attributes tree.views)) (sym (moved-attrs l.problem.stays l.values)) kept.counted.stays)
        (IsPermutation-map (λ (s : Stay). s.attr) (moved l.problem.stays l.values) (with_front (view_attributes id) (moved l.problem.stays l.values)) (front_permutes (view_attributes id) (moved l.problem.stays l.values))))

    pub keep-kept : IsKept (scene_at tree ms held setting new)
    keep-kept = record {
      are_rows = subst (AreRows ms held) (sym new-rows) kept.are_rows;
      each = kept.each;
      named = kept.named;
      next = kept.next;
      top = kept.top;
      counted = record {
        stays = new-counted;
        below = subst (All (λ r. r.id < setting.next_row)) (sym new-rows) kept.counted.below;
        ranks = subst (All HasRank) (sym new-rows) kept.counted.ranks;
        few = (let same : length new.problem.rows ≡ length l.problem.rows = ap length new-rows in omega (arith, same, kept.counted.few));
      };
    }
