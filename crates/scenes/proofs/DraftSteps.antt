-- The step of a scene to each draft: it can be made, and leads there.
use Rattle.std.proofs.Common.{Bool, ◌≡◌, ◌≢◌, ◌∙◌, ℕ, ◌*◌, ◌<◌, Some, None, List, [], ◌∷◌, ◌++◌, length, refl, sym, ap, ap₂, subst, All, AllPairs}
use Rattle.std.specs.Global.{Vec}
use Rattle.problem_core.specs.declared.parts.Stay.{Stay}
use Rattle.problem_core.specs.Kept.{IsWhole}
use Rattle.problem_core.specs.Layout.{HasStay, Problem}
use Rattle.view_tree.specs.declared.view.ViewId.{ViewId}
use Rattle.view_tree.specs.Views.{IsTree, LiveView, ViewTree}
use Rattle.compile_parts.specs.Meaning.{MetricList}
use Rattle.script_text.specs.declared.words.Direction.{Direction}
use Rattle.layout_solver.specs.Begins.{IsStopFrom}
use Rattle.layout_solver.specs.Keeping.{with_kept}
use Rattle.layout_solver.specs.Layouts.{IsKeptLayout, Layout, stays_at, with_added, zeros}
use Rattle.layout_solver.specs.Removals.{CanLeave, Leaving, stood, with_removed}
use Rattle.layout_solver.specs.Requests.{run_of}
use Rattle.layout_solver.specs.Shifts.{AreKept, with_shifts}
use Rattle.layout_solver.specs.declared.engine.Change.{Change}
use Rattle.layout_solver.specs.declared.request.Request.{Request}
use Rattle.layout_solver.specs.declared.request.Request.TheVariants as request
use Rattle.held_items.specs.Attributes.{attributes_from, view_attributes}
use Rattle.held_items.specs.Items.{Item, is_intrinsic, is_suggestion, rows_of_views, view_items}
use Rattle.held_items.specs.Kept.{IsNamed, changes_of, item_of, renewed_by}
use Rattle.held_items.specs.Leaving.{attributes_in, goes_with, is_in_group, numbers_of, staying}
use Rattle.held_items.specs.declared.item.coming.NewViews.{NewViews}
use Rattle.held_items.specs.declared.item.leaving.Leaver.{Leaver}
use Rattle.held_items.specs.declared.item.leaving.Leaver.TheVariants as leaver
use Rattle.held_items.specs.declared.item.new_item.NewItem.{NewItem}
use Rattle.held_items.specs.declared.item.renewing.Renewal.{Renewal}
use Rattle.held_items.proofs.Constants.Renewed.{all-renewed-IsItem, all-renewed-IsNamed}
use Rattle.held_items.proofs.HeldRows.ItemRows.{all-named-append}
use Rattle.held_items.proofs.Views.Attributes.{stays-below}
use Rattle.scenes.specs.declared.scene.draft.Draft.{Draft}
use Rattle.scenes.specs.declared.scene.draft.Draft.TheVariants as draft
use Rattle.scenes.specs.declared.scene.draft.NewMetrics.{NewMetrics}
use Rattle.scenes.specs.declared.scene.past.Setting.{Setting}
use Rattle.scenes.specs.declared.scene.step.Holding.TheVariants as holding
use Rattle.scenes.specs.declared.scene.step.Step.{Step}
use Rattle.scenes.specs.Drafts.{MayTake, drafted}
use Rattle.scenes.specs.Kept.{IsKept, IsNextItem, scene_at}
use Rattle.scenes.specs.Leaving.{without_items}
use Rattle.scenes.specs.Scene.{Scene, moved}
use Rattle.scenes.specs.Steps.{IsProblemOf}
use Rattle.scenes.specs.Stepping.{AreLeaving, AreViewsJoining, IsStepTo, plain_step, stepped, tree_left}
use Rattle.scenes.proofs.Engines.Additions.{counted-shifted}
use Rattle.scenes.proofs.Engines.Posed.{changed-kept, changed-posed, moves, still, views-free, views-kept, views-move, views-posed}
use Rattle.scenes.proofs.Engines.Reached.{settled}
use Rattle.scenes.proofs.Engines.Requests.{from_corner}
use Rattle.scenes.proofs.KeptViews.{four-apart, keep-kept, keep-poses, keep-there}
use Rattle.scenes.proofs.NextItems.{item-kept, item-next, item-posed, item-whole}
use Rattle.scenes.proofs.Removals.LeavingScenes.{group-can, group-kept, group-poses, group-rises, views-can, views-kept as gone-kept, views-pose, views-rise}
use Rattle.scenes.proofs.Renewals.{changes-rising, near-held, renewed-can, renewed-rows}
use Rattle.scenes.proofs.Settings.{later}
use Rattle.scenes.proofs.Turned.{turned, turned-kept}
use Rattle.scenes.proofs.Views.ViewsCome.{counted-views, views-whole}

module _ (tree : ViewTree) (ms : MetricList) (held : List Item) (setting : Setting) (l : Layout) (kept : IsKept (scene_at tree ms held setting l)) (sound : IsKeptLayout l) where
  -- the layout with this problem
  abbrev posing : Problem → Layout
  posing p = record { problem = p; values = l.values; corner = l.corner; earlier = [] }

  -- a scene with these stays
  abbrev at_stays : Scene → List Stay → Scene
  at_stays scene stays = record scene { stays = stays }

  -- ---- views come

  abbrev pub views_step : NewViews → Request → Step
  views_step new r = record {
    request = r;
    holding = holding.Views setting.next_row new.first_view.0 new.count;
    own = record { tree = Some new.tree; metrics = None; setting = later setting (2 * new.count) };
  }

  pub views-step : (new : NewViews) (r : Request) → AreViewsJoining setting.next_row new.first_view.0 new.count r → MayTake (scene_at tree ms held setting l) (draft.Views new)
      → IsStepTo (scene_at tree ms held setting l) (draft.Views new) (record { request = r; holding = holding.Views setting.next_row new.first_view.0 new.count; own = record { tree = Some new.tree; metrics = None; setting = later setting (2 * new.count) } })
  views-step new (request.Add attrs rows) (are_attrs, are_rows, each) (coming, room, most) =
      let whole : IsWhole (with_added l (attributes_from new.first_view.0 new.count) rows.items) =
      views-whole tree.views new.tree.views setting.next_row new.first_view.0 new.count l (settled l sound) kept.counted coming rows.items are_rows each room.rows in
      record {
        can = subst (λ (ns : List ℕ). IsWhole (with_added l ns rows.items)) (sym are_attrs) whole;
        kind = (
          tt,
          λ budget s h. views-free l setting.next_row new.first_view.0 new.count budget rows.items (run_of s) sound.corner.whole sound.best whole
              (stays-below l.problem.stays tree.views new.first_view.0 kept.counted.stays coming.above) are_rows
              (subst (λ (ns : List ℕ). IsStopFrom (from_corner l rows.items) (with_added l ns rows.items) budget (run_of s)) are_attrs h.1),
        );
        still = tt;
        holds = (room.numbers, coming.small);
        becomes = ap (λ (ss : List Stay). at_stays (stepped (scene_at tree ms held setting l) (views_step new (request.Add attrs rows))) ss)
            (ap (λ (ns : List ℕ). stays_at (l.values ++ zeros ns)) are_attrs ∙ sym (views-move tree ms held setting l kept sound new.first_view.0 new.count));
        kept = views-kept tree ms held setting l kept sound new.tree (held ++ view_items setting.next_row new.first_view.0 new.count) (posing (with_added l attrs.items rows.items)) new.first_view.0 new.count rows.items
            (subst (λ (vs : List LiveView). All (IsNamed vs) held) (sym coming.are) (all-named-append tree.views coming.more held kept.named)) are_rows coming.small room.numbers
            (ap (λ (ns : List ℕ). with_added l ns rows.items) are_attrs) refl
            (counted-views tree.views new.tree.views setting.next_row new.first_view.0 new.count l (settled l sound) kept.counted coming rows.items (with_added l attrs.items rows.items) are_rows room.rows
            (ap (λ (ns : List ℕ). with_added l ns rows.items) are_attrs));
      }
  views-step new (request.Shift to) joining may = absurd joining
  views-step new (request.Remove rows attrs) joining may = absurd joining
  views-step new (request.Keep attrs) joining may = absurd joining
  views-step new request.Stand joining may = absurd joining

  -- ---- constants change

  abbrev pub metrics_step : NewMetrics → Step
  metrics_step new = record { request = request.Shift new.to; holding = holding.Same; own = record { tree = None; metrics = Some new.metrics; setting = setting } }

  pub metrics-step : (new : NewMetrics) → MayTake (scene_at tree ms held setting l) (draft.Metrics new)
      → IsStepTo (scene_at tree ms held setting l) (draft.Metrics new) (record { request = request.Shift new.to; holding = holding.Same; own = record { tree = None; metrics = Some new.metrics; setting = setting } })
  metrics-step new may = record {
    can = record { held = may.can; rising = may.rising; kept = may.kept };
    kind = tt;
    still = tt;
    holds = tt;
    becomes = ap (λ (ss : List Stay). at_stays (stepped (scene_at tree ms held setting l) (metrics_step new)) ss) (sym (moves tree ms held setting l kept sound));
    kept = changed-kept tree ms held setting l kept sound new.metrics held new.to.items may.rows held (posing (with_shifts l new.to.items)) refl refl kept.each kept.named
        (counted-shifted tree.views setting.next_row l new.to.items (with_shifts l new.to.items) (settled l sound).attributes kept.counted refl);
  }

  abbrev pub renewed_step : Renewal → Vec Change → Step
  renewed_step to changes = record { request = request.Shift changes; holding = holding.Renewed to; own = record { tree = None; metrics = None; setting = setting } }

  pub renewed-step : (to : Renewal) (changes : Vec Change) → changes.items ≡ changes_of to → AreKept changes.items → MayTake (scene_at tree ms held setting l) (draft.Renewed to)
      → IsStepTo (scene_at tree ms held setting l) (draft.Renewed to) (plain_step (scene_at tree ms held setting l) (request.Shift changes) (holding.Renewed to))
  renewed-step to changes are fit may = record {
    can = record {
      held = renewed-can tree ms held setting l kept sound to changes.items are may fit;
      rising = changes-rising to changes.items are;
      kept = fit;
    };
    kind = tt;
    still = tt;
    holds = tt;
    becomes = ap (λ (ss : List Stay). at_stays (stepped (scene_at tree ms held setting l) (renewed_step to changes)) ss) (sym (moves tree ms held setting l kept sound));
    kept = changed-kept tree ms held setting l kept sound ms (renewed_by to held) changes.items
        (renewed-rows tree ms held setting l kept sound to changes.items are (near-held (scene_at tree ms held setting l) to may)) (renewed_by to held) (posing (with_shifts l changes.items)) refl refl
        (all-renewed-IsItem to held kept.each) (all-renewed-IsNamed tree.views to held kept.named)
        (counted-shifted tree.views setting.next_row l changes.items (with_shifts l changes.items) (settled l sound).attributes kept.counted refl);
  }

  -- ---- an item comes

  abbrev pub item_step : NewItem → Vec ℕ → Step
  item_step new attrs = record {
    request = request.Add attrs new.rows;
    holding = holding.More new.item;
    own = record { tree = None; metrics = None; setting = later setting (length new.rows.items) };
  }

  pub item-step : (new : NewItem) (attrs : Vec ℕ) → attrs.items ≡ [] → IsTree tree → MayTake (scene_at tree ms held setting l) (draft.More new)
      → IsStepTo (scene_at tree ms held setting l) (draft.More new) (record { request = request.Add attrs new.rows; holding = holding.More new.item; own = record { tree = None; metrics = None; setting = later setting (length new.rows.items) } })
  item-step new attrs none whole may =
      let next : IsNextItem (scene_at tree ms held setting l) (item_of new.item) new.rows.items = item-next tree ms held setting l kept (item_of new.item) new.rows.items whole may.next may.each may.room in
      record {
        can = subst (λ (ns : List ℕ). IsWhole (with_added l ns new.rows.items)) (sym none) (item-whole tree ms held setting l kept sound (item_of new.item) new.rows.items next);
        kind = tt;
        still = tt;
        holds = tt;
        becomes = ap (λ (ss : List Stay). at_stays (stepped (scene_at tree ms held setting l) (item_step new attrs)) ss)
            (ap (λ (ns : List ℕ). stays_at (l.values ++ zeros ns)) none ∙ sym (still tree ms held setting l kept sound));
        kept = item-kept tree ms held setting l kept sound (item_of new.item) new.rows.items next (held ++ item_of new.item ∷ []) (posing (with_added l attrs.items new.rows.items))
            (ap (λ (ns : List ℕ). with_added l ns new.rows.items) none) refl may.room.numbers;
      }

  -- ---- something leaves

  abbrev leaving : List ℕ → List ℕ → Leaving
  leaving rows attrs = record { rows = rows; attrs = attrs }

  abbrev leaving_step : Leaver → Request → Step
  leaving_step it r = record { request = r; holding = holding.Out it; own = record { tree = tree_left tree it; metrics = None; setting = setting } }

  -- no view does
  record IsLeft (goes : Item → Bool) (rows attrs : Vec ℕ) : Type 0 where
    can : CanLeave (record { rows = rows.items; attrs = attrs.items }) l.problem
    rises : AllPairs (λ a b. a < b) rows.items
    stays : (with_removed l (record { rows = rows.items; attrs = attrs.items })).stays ≡ moved l.problem.stays l.values
    keeps : IsKept (scene_at tree ms (staying goes held) setting (record { problem = with_removed l (record { rows = rows.items; attrs = attrs.items }); values = l.values; corner = l.corner; earlier = [] }))

  items-left : (goes : Item → Bool) (rows attrs : Vec ℕ) → rows.items ≡ numbers_of goes held → attrs.items ≡ [] → IsLeft goes rows attrs
  items-left goes rows attrs are_rows are_attrs =
      let same : leaving rows.items attrs.items ≡ leaving (numbers_of goes held) [] = ap₂ leaving are_rows are_attrs in
      record {
        can = subst (λ (w : Leaving). CanLeave w l.problem) (sym same) (group-can tree ms held setting l kept sound goes);
        rises = subst (AllPairs (λ a b. a < b)) (sym are_rows) (group-rises tree ms held setting l kept sound goes);
        stays = (group-poses tree ms held setting l kept sound goes (with_removed l (leaving rows.items attrs.items)) (ap (with_removed l) same)).1;
        keeps = group-kept tree ms held setting l kept sound goes (staying goes held) (posing (with_removed l (leaving rows.items attrs.items))) (ap (with_removed l) same) refl;
      }

  pub leaving-step : (it : Leaver) (r : Request) → AreLeaving held it r → IsTree tree → MayTake (scene_at tree ms held setting l) (draft.Out it)
      → IsStepTo (scene_at tree ms held setting l) (draft.Out it) (record { request = r; holding = holding.Out it; own = record { tree = tree_left tree it; metrics = None; setting = setting } })
  leaving-step it (request.Add attrs rows) are whole may = absurd are
  leaving-step it (request.Shift to) are whole may = absurd are
  leaving-step it (request.Keep attrs) are whole may = absurd are
  leaving-step it request.Stand are whole may = absurd are
  leaving-step (leaver.Group name) (request.Remove rows attrs) are whole may =
      let is_left = items-left (is_in_group name) rows attrs are.0 are.1 in
      record {
        can = is_left.can;
        kind = is_left.rises;
        still = tt;
        holds = tt;
        becomes = ap (λ (ss : List Stay). at_stays (stepped (scene_at tree ms held setting l) (leaving_step (leaver.Group name) (request.Remove rows attrs))) ss) is_left.stays;
        kept = is_left.keeps;
      }
  leaving-step (leaver.Suggestion view word) (request.Remove rows attrs) are whole may =
      let is_left = items-left (is_suggestion view word) rows attrs are.0 are.1 in
      record {
        can = is_left.can;
        kind = is_left.rises;
        still = tt;
        holds = tt;
        becomes = ap (λ (ss : List Stay). at_stays (stepped (scene_at tree ms held setting l) (leaving_step (leaver.Suggestion view word) (request.Remove rows attrs))) ss) is_left.stays;
        kept = is_left.keeps;
      }
  leaving-step (leaver.Intrinsic view) (request.Remove rows attrs) are whole may =
      let is_left = items-left (is_intrinsic view) rows attrs are.0 are.1 in
      record {
        can = is_left.can;
        kind = is_left.rises;
        still = tt;
        holds = tt;
        becomes = ap (λ (ss : List Stay). at_stays (stepped (scene_at tree ms held setting l) (leaving_step (leaver.Intrinsic view) (request.Remove rows attrs))) ss) is_left.stays;
        kept = is_left.keeps;
      }
  leaving-step (leaver.Views gone) (request.Remove rows attrs) are whole (root, below, going) =
      let same : leaving rows.items attrs.items ≡ leaving (numbers_of (goes_with gone.items) held) (attributes_in gone.items) = ap₂ leaving are.0 are.1 in
      record {
        can = subst (λ (w : Leaving). CanLeave w l.problem) (sym same) (views-can tree ms held setting l kept sound whole root gone.items below going);
        kind = subst (AllPairs (λ a b. a < b)) (sym are.0) (views-rise tree ms held setting l kept sound whole root gone.items below going);
        still = tt;
        holds = tt;
        becomes = ap (λ (ss : List Stay). at_stays (stepped (scene_at tree ms held setting l) (leaving_step (leaver.Views gone) (request.Remove rows attrs))) ss)
            (views-pose tree ms held setting l kept sound whole root gone.items below going (with_removed l (leaving rows.items attrs.items)) (ap (with_removed l) same)).1;
        kept = gone-kept tree ms held setting l kept sound whole root gone.items below going (staying (goes_with gone.items) held) (posing (with_removed l (leaving rows.items attrs.items))) (ap (with_removed l) same) refl;
      }

  -- ---- no row changes

  pub turning-step : (to : Direction)
      → IsStepTo (scene_at tree ms held setting l) (draft.Turn to) (record { request = request.Stand; holding = holding.Same; own = record { tree = None; metrics = None; setting = turned setting to } })
  turning-step to = record {
    can = tt;
    kind = refl;
    still = tt;
    holds = tt;
    becomes = ap (λ (ss : List Stay). at_stays (stepped (scene_at tree ms held setting l) (record { request = request.Stand; holding = holding.Same; own = record { tree = None; metrics = None; setting = turned setting to } })) ss) (sym (moves tree ms held setting l kept sound));
    kept = turned-kept tree ms held setting l kept sound to (posing (stood l)) refl;
  }

  pub keeping-step : (view : ViewId) (attrs : Vec ℕ) → attrs.items ≡ view_attributes view.0 → MayTake (scene_at tree ms held setting l) (draft.Keep view)
      → IsStepTo (scene_at tree ms held setting l) (draft.Keep view) (plain_step (scene_at tree ms held setting l) (request.Keep attrs) holding.Same)
  keeping-step view attrs are may =
      let posed : with_kept l attrs.items ≡ with_kept l (view_attributes view.0) = ap (with_kept l) are in
      record {
        can = record {
          held = subst (All (HasStay l.problem.stays)) (sym are) (keep-there tree ms held setting l kept sound view.0 may);
          apart = subst (AllPairs (λ a b. a ≢ b)) (sym are) (four-apart view.0);
        };
        kind = (tt, λ budget s h. (let (none, free, stops) = h in free));
        still = tt;
        holds = tt;
        becomes = ap (λ (ss : List Stay). at_stays (stepped (scene_at tree ms held setting l) (plain_step (scene_at tree ms held setting l) (request.Keep attrs) holding.Same)) ss) (keep-poses tree ms held setting l kept sound view.0 (with_kept l attrs.items) posed).1;
        kept = keep-kept tree ms held setting l kept sound view.0 (posing (with_kept l attrs.items)) posed;
      }

  -- ---- each draft has a problem

  items-pose : (goes : Item → Bool) → (p : Problem) × IsProblemOf (without_items (scene_at tree ms held setting l) goes) p
  items-pose goes = (with_removed l (leaving (numbers_of goes held) []), group-poses tree ms held setting l kept sound goes (with_removed l (leaving (numbers_of goes held) [])) refl)

  pub draft-posed : (to : Draft) → IsTree tree → MayTake (scene_at tree ms held setting l) to → (p : Problem) × IsProblemOf (drafted (scene_at tree ms held setting l) to) p
  draft-posed (draft.Views new) whole may = (
    with_added l (attributes_from new.first_view.0 new.count) (rows_of_views setting.next_row new.first_view.0 new.count),
    views-posed tree ms held setting l kept sound new.tree new.first_view.0 new.count (rows_of_views setting.next_row new.first_view.0 new.count)
        (with_added l (attributes_from new.first_view.0 new.count) (rows_of_views setting.next_row new.first_view.0 new.count)) refl refl,
  )
  draft-posed (draft.Metrics new) whole may = (with_shifts l new.to.items, changed-posed tree ms held setting l kept sound new.metrics held new.to.items may.rows (with_shifts l new.to.items) refl)
  draft-posed (draft.More new) whole may = (
    with_added l [] new.rows.items,
    item-posed tree ms held setting l kept sound (item_of new.item) new.rows.items
        (item-next tree ms held setting l kept (item_of new.item) new.rows.items whole may.next may.each may.room) (with_added l [] new.rows.items) refl,
  )
  draft-posed (draft.Renewed to) whole may = (
    with_shifts l (changes_of to),
    changed-posed tree ms held setting l kept sound ms (renewed_by to held) (changes_of to)
        (renewed-rows tree ms held setting l kept sound to (changes_of to) refl (near-held (scene_at tree ms held setting l) to may)) (with_shifts l (changes_of to)) refl,
  )
  draft-posed (draft.Out (leaver.Group name)) whole may = items-pose (is_in_group name)
  draft-posed (draft.Out (leaver.Views gone)) whole (root, below, going) = (
    with_removed l (leaving (numbers_of (goes_with gone.items) held) (attributes_in gone.items)),
    views-pose tree ms held setting l kept sound whole root gone.items below going (with_removed l (leaving (numbers_of (goes_with gone.items) held) (attributes_in gone.items))) refl,
  )
  draft-posed (draft.Out (leaver.Suggestion view word)) whole may = items-pose (is_suggestion view word)
  draft-posed (draft.Out (leaver.Intrinsic view)) whole may = items-pose (is_intrinsic view)
  draft-posed (draft.Turn to) whole may = (stood l, (kept.are_rows, sym (moves tree ms held setting l kept sound)))
  draft-posed (draft.Keep view) whole may = (with_kept l (view_attributes view.0), keep-poses tree ms held setting l kept sound view.0 (with_kept l (view_attributes view.0)) refl)
