-- What a step of a scene to a draft comes to, once the engine has solved its request or stopped.
use Rattle.std.proofs.Common.{◌≡◌, ◌∙◌, ℕ, List, [], ◌∷◌, map, refl, sym, ap, ap₂, subst, All, IsPermutation, Contains}
use Rattle.std.specs.List.{AllByRecursion as Each}
use Rattle.std.proofs.lemmas.List.Elements.{All-map, recursion_from_All}
use Rattle.std.proofs.lemmas.List.Sorted.{IsPermutation-sym}
use Rattle.frac_core.specs.Fraction.{Fraction}
use Rattle.problem_core.specs.declared.parts.Mark.{Mark}
use Rattle.problem_core.specs.declared.parts.Stay.{Stay}
use Rattle.problem_core.specs.Gaps.{value_of}
use Rattle.problem_core.specs.Layout.{HasStay, Problem, Row}
use Rattle.problem_core.proofs.StayNumbers.{numbers_held}
use Rattle.cert_core.specs.Paths.{Path}
use Rattle.view_tree.specs.Views.{ViewTree}
use Rattle.compile_parts.specs.Meaning.{MetricList}
use Rattle.layout_solver.specs.Begins.{IsRunTo}
use Rattle.layout_solver.specs.Layouts.{IsKeptLayout, Layout}
use Rattle.layout_solver.specs.Requests.{CanSolve, IsRequestStop, IsSolvedBy, posed_by}
use Rattle.layout_solver.specs.declared.request.Request.{Request}
use Rattle.layout_solver.specs.declared.request.Request.TheVariants as request
use Rattle.layout_solver.specs.declared.request.RequestStop.{RequestStop}
use Rattle.layout_solver.proofs.ApartValues.{stay_valued, value_in, value_is}
use Rattle.layout_solver.proofs.KeptOrders.{front_at}
use Rattle.held_items.specs.Attributes.{IsCounted, all_attributes}
use Rattle.held_items.specs.Items.{AreRows, Item}
use Rattle.held_items.specs.declared.item.leaving.Leaver.TheVariants as leaver
use Rattle.scenes.specs.declared.scene.draft.Draft.{Draft}
use Rattle.scenes.specs.declared.scene.draft.Draft.TheVariants as draft
use Rattle.scenes.specs.declared.scene.past.Setting.{Setting}
use Rattle.scenes.specs.declared.scene.step.Step.{Step}
use Rattle.scenes.specs.Drafts.{Any, Free, KeepsValues, Kind, Left, Turned, drafted, kind_of}
use Rattle.scenes.specs.Kept.{IsKept, own_or, scene_at, scene_of}
use Rattle.scenes.specs.Scene.{AreDraftRows, Becomes, Scene, values_by_number}
use Rattle.scenes.specs.Steps.{ComesTo, HasLeft, HasSolved, IsProblemOf, IsTurned, StopsAs}
use Rattle.scenes.specs.Stepping.{IsOfKind, IsRemoval, NeedsRun, IsStanding, IsStepTo, IsStillFor, held_by, layout_of}
use Rattle.scenes.proofs.Engines.Reached.{reached}
use Rattle.scenes.proofs.Engines.Requests.{begins, can-behind, free-behind, leads, leaves, leaving_in, posed-behind, removal-halts, removed, run-halts, start_of}
use Rattle.scenes.proofs.Engines.Posed.{stands}

-- ---- a draft has the rows, the values and the corner of before

rows-before : (old : Scene) (to : Draft) → (drafted old to).rows ≡ old.rows
rows-before old (draft.Views new) = refl
rows-before old (draft.Metrics new) = refl
rows-before old (draft.More new) = refl
rows-before old (draft.Renewed to) = refl
rows-before old (draft.Out (leaver.Group name)) = refl
rows-before old (draft.Out (leaver.Views gone)) = refl
rows-before old (draft.Out (leaver.Suggestion view word)) = refl
rows-before old (draft.Out (leaver.Intrinsic view)) = refl
rows-before old (draft.Turn to) = refl
rows-before old (draft.Keep view) = refl

values-before : (old : Scene) (to : Draft) → (drafted old to).values ≡ old.values
values-before old (draft.Views new) = refl
values-before old (draft.Metrics new) = refl
values-before old (draft.More new) = refl
values-before old (draft.Renewed to) = refl
values-before old (draft.Out (leaver.Group name)) = refl
values-before old (draft.Out (leaver.Views gone)) = refl
values-before old (draft.Out (leaver.Suggestion view word)) = refl
values-before old (draft.Out (leaver.Intrinsic view)) = refl
values-before old (draft.Turn to) = refl
values-before old (draft.Keep view) = refl

corner-before : (old : Scene) (to : Draft) → (drafted old to).corner ≡ old.corner
corner-before old (draft.Views new) = refl
corner-before old (draft.Metrics new) = refl
corner-before old (draft.More new) = refl
corner-before old (draft.Renewed to) = refl
corner-before old (draft.Out (leaver.Group name)) = refl
corner-before old (draft.Out (leaver.Views gone)) = refl
corner-before old (draft.Out (leaver.Suggestion view word)) = refl
corner-before old (draft.Out (leaver.Intrinsic view)) = refl
corner-before old (draft.Turn to) = refl
corner-before old (draft.Keep view) = refl

-- ---- values that stay

module _ (l new : Layout) (sound : IsKeptLayout l) (also : IsKeptLayout new) where
  same-value : (r : Request) (budget : ℕ) → IsStanding r → new.problem ≡ posed_by l r → IsSolvedBy l r budget new → (a : ℕ) → HasStay new.problem.stays a → value_of new.values a ≡ value_of l.values a
  same-value (request.Add attrs rows) budget still done solved a has = absurd still
  same-value (request.Shift to) budget still done solved a has = absurd still
  same-value (request.Remove rows attrs) budget still done solved a has = absurd still
  same-value (request.Keep attrs) budget still done solved a has =
      let (k, v, within, inside, (e, f)) = value_in new.values a (stay_valued new.problem.stays new.values also.best.attributes a has) in
      let there : Contains l.values v =
      subst (Contains l.values) inside
      (subst (λ (vs : List (ℕ × Fraction)). All (Contains l.values) vs) (sym solved.0)
      (All-map (Contains l.values) (λ (s : Stay). (s.attr, s.target)) new.problem.stays
      (subst (λ (ss : List Stay). All (λ s. Contains l.values (s.attr, s.target)) ss) (sym (ap (λ (p : Problem). p.stays) done)) (front_at attrs.items l.values))) k v within) in
      let (j, small, found) = there in
      value_is l.values a (value_of new.values a) sound.apart (j, v, small, found, (e, f))
  same-value request.Stand budget still done solved a has = ap (λ (vs : List (ℕ × Fraction)). value_of vs a) solved.0

  same-values : (r : Request) (budget : ℕ) → IsStanding r → new.problem ≡ posed_by l r → IsSolvedBy l r budget new → (ns : List ℕ) → Each (HasStay new.problem.stays) ns
      → map {B = ℕ × Fraction} (λ a. (a, value_of new.values a)) ns ≡ map {B = ℕ × Fraction} (λ a. (a, value_of l.values a)) ns
  same-values r budget still done solved [] each = refl
  same-values r budget still done solved (n ∷ ns) each =
      ap₂ (λ (f : Fraction) (vs : List (ℕ × Fraction)). pair n f ∷ vs) (same-value r budget still done solved n each.0) (same-values r budget still done solved ns each.1)
    where
      pair : ℕ → Fraction → ℕ × Fraction
      pair m f = (m, f)

-- ---- the step

module _ (tree : ViewTree) (ms : MetricList) (held : List Item) (setting : Setting) (l : Layout) (kept : IsKept (scene_at tree ms held setting l)) (sound : IsKeptLayout l)
    (to : Draft) (step : Step) (is : IsStepTo (scene_at tree ms held setting l) to step) where
  posed-here : posed_by (layout_of (scene_at tree ms held setting l)) step.request ≡ posed_by l step.request
  posed-here = posed-behind l [] step.request

  pub step-can : CanSolve l step.request
  step-can = can-behind l [] step.request is.can

  -- the problem that is posed is the draft's
  rows-there : AreDraftRows (drafted (scene_at tree ms held setting l) to) (posed_by l step.request).rows
  rows-there =
      subst (λ (p : Problem). AreDraftRows (drafted (scene_at tree ms held setting l) to) p.rows) (posed-here)
      (subst (λ (s : Scene). AreRows s.metrics s.held (posed_by (layout_of (scene_at tree ms held setting l)) step.request).rows) is.becomes is.kept.are_rows)

  stays-there : (posed_by l step.request).stays ≡ (drafted (scene_at tree ms held setting l) to).stays
  stays-there = ap (λ (p : Problem). p.stays) (sym posed-here) ∙ ap (λ (s : Scene). s.stays) is.becomes

  pub step-posed : (p : Problem) → p ≡ posed_by l step.request → IsProblemOf (drafted (scene_at tree ms held setting l) to) p
  step-posed p e = (
    subst (λ (q : Problem). AreDraftRows (drafted (scene_at tree ms held setting l) to) q.rows) (sym e) rows-there,
    ap (λ (q : Problem). q.stays) e ∙ stays-there,
  )

  problem-there : (rows : List Row) → rows ≡ (posed_by l step.request).rows → record { rows = rows; stays = (drafted (scene_at tree ms held setting l) to).stays } ≡ posed_by l step.request
  problem-there rows e = ap₂ (λ (rs : List Row) (ss : List Stay). problem rs ss) e (sym stays-there)
    where
      problem : List Row → List Stay → Problem
      problem rs ss = record { rows = rs; stays = ss }

  -- ---- it stops

  pub step-stops : (budget : ℕ) (s : RequestStop) → IsRequestStop l step.request budget s → StopsAs (kind_of to) (scene_at tree ms held setting l) (drafted (scene_at tree ms held setting l) to) budget s
  step-stops budget s h = by (kind_of to) is.kind
    where
      by : (k : Kind) → IsOfKind k (layout_of (scene_at tree ms held setting l)) step.request → StopsAs k (scene_at tree ms held setting l) (drafted (scene_at tree ms held setting l) to) budget s
      by Free of_kind = (
        run-halts (scene_at tree ms held setting l) (drafted (scene_at tree ms held setting l) to) l refl refl step.request rows-there stays-there budget s of_kind.0 h,
        free-behind l [] step.request of_kind.1 budget s h,
      )
      by Any of_kind = run-halts (scene_at tree ms held setting l) (drafted (scene_at tree ms held setting l) to) l refl refl step.request rows-there stays-there budget s of_kind h
      by Left of_kind =
          removal-halts (scene_at tree ms held setting l) (drafted (scene_at tree ms held setting l) to) l (stands tree ms held setting l kept sound) refl refl refl step.request budget s (posed_by l step.request).rows
          rows-there of_kind step-can (problem-there (posed_by l step.request).rows refl) h
      by Turned of_kind = subst (λ (r : Request). IsRequestStop l r budget s) of_kind h

  -- ---- it is solved

  module _ (items : List Item) (new : Layout) (held_is : items ≡ held_by step.holding held) (done : new.problem ≡ posed_by l step.request) (good : IsKeptLayout new) where
    problem-is : new.problem ≡ posed_by (layout_of (scene_at tree ms held setting l)) step.request
    problem-is = done ∙ sym posed-here

    pub step-kept : IsKept (scene_at (own_or step.own.tree tree) (own_or step.own.metrics ms) items step.own.setting new)
    step-kept =
        subst (λ (hs : List Item). IsKept (scene_at (own_or step.own.tree tree) (own_or step.own.metrics ms) hs step.own.setting new)) (sym held_is)
        (record {
          are_rows = subst (λ (p : Problem). AreRows (own_or step.own.metrics ms) (held_by step.holding held) p.rows) (sym problem-is) is.kept.are_rows;
          each = is.kept.each;
          named = is.kept.named;
          next = is.kept.next;
          top = is.kept.top;
          counted = subst (IsCounted (own_or step.own.tree tree).views step.own.setting.next_row) (sym problem-is) is.kept.counted;
        })

    -- the scene is the draft but for rows, values and corner
    becomes-draft : scene_at (own_or step.own.tree tree) (own_or step.own.metrics ms) items step.own.setting new
        ≡ record (drafted (scene_at tree ms held setting l) to) { rows = new.problem.rows; values = new.values; corner = new.corner }
    becomes-draft =
        ap (λ (hs : List Item). scene_at (own_or step.own.tree tree) (own_or step.own.metrics ms) hs step.own.setting new) held_is
        ∙ ap (λ (ss : List Stay). scene_of (own_or step.own.tree tree) (own_or step.own.metrics ms) (held_by step.holding held) step.own.setting (record { problem = record { rows = new.problem.rows; stays = ss }; values = new.values; corner = new.corner })) (ap (λ (p : Problem). p.stays) problem-is)
        ∙ ap (λ (s : Scene). with_solution s) is.becomes
      where
        with_solution : Scene → Scene
        with_solution s = record s { rows = new.problem.rows; values = new.values; corner = new.corner }

    becomes-is : Becomes (drafted (scene_at tree ms held setting l) to) (scene_at (own_or step.own.tree tree) (own_or step.own.metrics ms) items step.own.setting new)
    becomes-is = record {
      same = becomes-draft;
      rows = subst (λ (p : Problem). AreDraftRows (drafted (scene_at tree ms held setting l) to) p.rows) (sym done) rows-there;
      best = good.best;
      reached = reached new good;
    }

    ran : (budget : ℕ) → NeedsRun step.request → IsSolvedBy l step.request budget new
        → HasSolved (scene_at tree ms held setting l) (drafted (scene_at tree ms held setting l) to) budget (scene_at (own_or step.own.tree tree) (own_or step.own.metrics ms) items step.own.setting new)
    ran budget runs solved =
        let path : (path : Path) × IsRunTo (start_of l step.request) new.problem budget new.corner path = leads l new step.request budget runs done solved in (
          path.0,
          record {
            becomes = becomes-is;
            start = start_of l step.request;
            begins = begins (scene_at tree ms held setting l) l refl refl step.request runs new.problem.rows (ap (λ (p : Problem). p.rows) done);
            run = path.1;
          },
        )

    left : (budget : ℕ) → IsRemoval step.request → IsSolvedBy l step.request budget new
        → HasLeft (scene_at tree ms held setting l) (drafted (scene_at tree ms held setting l) to) budget (scene_at (own_or step.own.tree tree) (own_or step.own.metrics ms) items step.own.setting new)
    left budget removes solved = record {
      becomes = becomes-is;
      leaving = leaving_in step.request;
      leaves = leaves (scene_at tree ms held setting l) (drafted (scene_at tree ms held setting l) to) l (stands tree ms held setting l kept sound) refl refl refl step.request removes step-can new.problem.rows
          (problem-there new.problem.rows (ap (λ (p : Problem). p.rows) done));
      run = removed (scene_at tree ms held setting l) (drafted (scene_at tree ms held setting l) to) l (stands tree ms held setting l kept sound) refl refl refl step.request new budget removes solved;
    }

    -- a corner that stays, of a problem with the rows of before
    turned : (budget : ℕ) → step.request ≡ request.Stand → IsSolvedBy l step.request budget new
        → IsTurned (drafted (scene_at tree ms held setting l) to) (scene_at (own_or step.own.tree tree) (own_or step.own.metrics ms) items step.own.setting new)
    turned budget standing solved =
        let same : (new.values ≡ l.values) × (new.corner ≡ l.corner) = subst (λ (r : Request). IsSolvedBy l r budget new) standing solved in
        let rows : new.problem.rows ≡ l.problem.rows = ap (λ (p : Problem). p.rows) done ∙ ap (λ (r : Request). (posed_by l r).rows) standing in
        record {
          same = becomes-draft
              ∙ ap (λ (rs : List Row). made rs new.values new.corner) (rows ∙ sym (rows-before (scene_at tree ms held setting l) to))
              ∙ ap (λ (vs : List (ℕ × Fraction)). made (drafted (scene_at tree ms held setting l) to).rows vs new.corner) (same.0 ∙ sym (values-before (scene_at tree ms held setting l) to))
              ∙ ap (λ (at : List Mark). made (drafted (scene_at tree ms held setting l) to).rows (drafted (scene_at tree ms held setting l) to).values at) (same.1 ∙ sym (corner-before (scene_at tree ms held setting l) to));
          rows = step-kept.are_rows;
          best = good.best;
        }
      where
        made : List Row → List (ℕ × Fraction) → List Mark → Scene
        made rs vs at = record (drafted (scene_at tree ms held setting l) to) { rows = rs; values = vs; corner = at }

    pub step-comes : (budget : ℕ) → IsSolvedBy l step.request budget new
        → ComesTo (kind_of to) (scene_at tree ms held setting l) (drafted (scene_at tree ms held setting l) to) budget (scene_at (own_or step.own.tree tree) (own_or step.own.metrics ms) items step.own.setting new)
    step-comes budget solved = by (kind_of to) is.kind
      where
        by : (k : Kind) → IsOfKind k (layout_of (scene_at tree ms held setting l)) step.request
            → ComesTo k (scene_at tree ms held setting l) (drafted (scene_at tree ms held setting l) to) budget (scene_at (own_or step.own.tree tree) (own_or step.own.metrics ms) items step.own.setting new)
        by Free of_kind = ran budget of_kind.0 solved
        by Any of_kind = ran budget of_kind solved
        by Left of_kind = left budget of_kind solved
        by Turned of_kind = turned budget of_kind solved

    -- ---- values that stay

    values-stay : (budget : ℕ) → IsStanding step.request → IsSolvedBy l step.request budget new → own_or step.own.tree tree ≡ tree
        → values_by_number (scene_at (own_or step.own.tree tree) (own_or step.own.metrics ms) items step.own.setting new) ≡ values_by_number (scene_at tree ms held setting l)
    values-stay budget still solved same =
        let counted : IsPermutation (all_attributes tree.views) (map (λ s. s.attr) new.problem.stays) = subst (λ (t : ViewTree). IsPermutation (all_attributes t.views) (map (λ s. s.attr) new.problem.stays)) same step-kept.counted.stays in
        ap (λ (t : ViewTree). map {B = ℕ × Fraction} (λ a. (a, value_of new.values a)) (all_attributes t.views)) same
        ∙ same-values l new sound good step.request budget still done solved (all_attributes tree.views)
        (recursion_from_All (HasStay new.problem.stays) (all_attributes tree.views) (numbers_held new.problem.stays (all_attributes tree.views) (IsPermutation-sym (all_attributes tree.views) (map (λ s. s.attr) new.problem.stays) counted)))

    pub step-values : (budget : ℕ) → IsSolvedBy l step.request budget new → KeepsValues to (scene_at tree ms held setting l) (scene_at (own_or step.own.tree tree) (own_or step.own.metrics ms) items step.own.setting new)
    step-values budget solved = by to is.still (ap (λ (s : Scene). s.tree) is.becomes)
      where
        by : (d : Draft) → IsStillFor d step.request → own_or step.own.tree tree ≡ (drafted (scene_at tree ms held setting l) d).tree
            → KeepsValues d (scene_at tree ms held setting l) (scene_at (own_or step.own.tree tree) (own_or step.own.metrics ms) items step.own.setting new)
        by (draft.Views new_views) still same = tt
        by (draft.Metrics new_metrics) still same = tt
        by (draft.More more) still same = tt
        by (draft.Renewed again) still same = tt
        by (draft.Out leaver) still same = tt
        by (draft.Turn direction) still same = values-stay budget still solved same
        by (draft.Keep view) still same = values-stay budget still solved same
