-- The problems of drafts: the rows that they stand for, their stays, and what a scene keeps of them.
use Rattle.std.proofs.Common.{◌≡◌, ℕ, ◌+◌, ◌*◌, ◌^◌, ◌≤◌, List, [], ◌++◌, All, sym, ap, ◌∙◌, subst, arith}
use Rattle.std.proofs.lemmas.List.Elements.{All-append}
use Rattle.problem_core.specs.declared.parts.RowName.TheVariants.{Held}
use Rattle.problem_core.specs.Layout.{Row, Problem, IsInConflict}
use Rattle.problem_core.specs.Kept.{IsWhole}
use Rattle.problem_core.proofs.Refutations.{refutation-IsInConflict}
use Rattle.problem_core.proofs.Wholes.{whole-IsProblem}
use Rattle.view_tree.specs.Views.{ViewTree}
use Rattle.compile_parts.specs.Meaning.{MetricList}
use Rattle.cert_core.specs.declared.stops.RunStop.{RunStop}
use Rattle.cert_core.specs.declared.stops.RunStop.TheVariants as run
use Rattle.cert_core.specs.Claims.{times_of}
use Rattle.layout_solver.specs.Begins.{IsStopFrom}
use Rattle.layout_solver.specs.declared.engine.Change.{Change}
use Rattle.layout_solver.specs.Layouts.{Layout, AreBest, IsKeptLayout, stays_at, zeros, with_added}
use Rattle.layout_solver.specs.Shifts.{shifted, with_shifts}
use Rattle.layout_solver.specs.Keeping.{NoConflict}
use Rattle.layout_solver.specs.Removals.{stood}
use Rattle.held_items.specs.Items.{Item, AreRows, rows_of_views, view_items}
use Rattle.scenes.specs.Scene.{moved}
use Rattle.scenes.specs.Leaving.{stood_of}
use Rattle.scenes.specs.Steps.{IsProblemOf}
use Rattle.scenes.proofs.Engines.Requests.{from_corner, rows_is, stays_is}
use Rattle.scenes.specs.Drafts.{views_draft}
use Rattle.held_items.specs.Attributes.{IsCounted, attributes_from}
use Rattle.held_items.specs.Kept.{IsItem, IsNamed}
use Rattle.scenes.specs.Kept.{IsKept, scene_at}
use Rattle.held_items.proofs.Views.ViewRows.{all-items, all-names, rows-come, rows-join}
use Rattle.layout_solver.proofs.Posed.Moves.{moved-is}
use Rattle.scenes.proofs.Engines.Moves.{moved-still, moved-added}
use Rattle.scenes.proofs.Views.NewViews.{views-possible}
use Rattle.scenes.proofs.Engines.Reached.{settled}
use Rattle.scenes.proofs.Engines.Wholes.{IsSettled}
use Rattle.corner_view.proofs.Facts.{made_problem}
use Rattle.scenes.specs.declared.scene.past.Setting.{Setting}
use Rattle.scenes.proofs.Settings.{later}

module _ (tree : ViewTree) (ms : MetricList) (held : List Item) (setting : Setting) (l : Layout) (kept : IsKept (scene_at tree ms held setting l)) (sound : IsKeptLayout l) where
  pub is : IsSettled l.problem l.values
  is = settled l sound

  pub still : moved l.problem.stays l.values ≡ stays_at (l.values ++ zeros [])
  still = moved-still l.problem.stays l.values is.attributes is.apart

  pub moves : moved l.problem.stays l.values ≡ stays_at l.values
  moves = moved-is l.problem.stays l.values is.attributes is.apart

  pub stands : stood l ≡ stood_of (scene_at tree ms held setting l)
  stands = ap (made_problem l.problem.rows) (sym moves)

  -- ---- views

  views-are : (id n : ℕ) (more : List Row) → more ≡ rows_of_views setting.next_row id n → AreRows ms (held ++ view_items setting.next_row id n) (l.problem.rows ++ more)
  views-are id n more more_is = rows-join ms held (view_items setting.next_row id n) l.problem.rows more kept.are_rows (subst (AreRows ms (view_items setting.next_row id n)) (sym more_is) (rows-come ms setting.next_row id n))

  pub views-move : (id n : ℕ) → moved l.problem.stays l.values ++ stays_at (zeros (attributes_from id n)) ≡ stays_at (l.values ++ zeros (attributes_from id n))
  views-move id n = moved-added l.problem.stays l.values (attributes_from id n) is.attributes is.apart

  pub views-kept : (new_tree : ViewTree) (items : List Item) (new : Layout) (id n : ℕ) (more : List Row) → All (IsNamed new_tree.views) held → more ≡ rows_of_views setting.next_row id n → id + n ≤ 2 ^ 29 → setting.next_row + 2 * n ≤ 2 ^ 31
      → new.problem ≡ with_added l (attributes_from id n) more → items ≡ held ++ view_items setting.next_row id n → IsCounted new_tree.views (setting.next_row + 2 * n) new.problem → IsKept (scene_at new_tree ms items (later setting (2 * n)) new)
  views-kept new_tree items new id n more named more_is small below done items_is counted =
      subst (λ (hs : List Item). IsKept (scene_at new_tree ms hs (later setting (2 * n)) new)) (sym items_is)
      (record {
        are_rows = subst (AreRows ms (held ++ view_items setting.next_row id n)) (sym (rows_is new.problem (with_added l (attributes_from id n) more) done)) (views-are id n more more_is);
        each = All-append IsItem held (view_items setting.next_row id n) kept.each (all-items setting.next_row id n kept.next below small);
        named = All-append (IsNamed new_tree.views) held (view_items setting.next_row id n) named (all-names new_tree.views setting.next_row id n);
        next = omega (arith, kept.next);
        top = below;
        counted = counted;
      })

  -- ---- other constants

  -- by these changes the rows become those of other items, or for other metrics
  module _ (new_ms : MetricList) (others : List Item) (to : List Change) (are : AreRows new_ms others (shifted to l.problem.rows)) where
    changed-are : (new : Layout) → new.problem ≡ with_shifts l to → AreRows new_ms others new.problem.rows
    changed-are new done = subst (AreRows new_ms others) (sym (rows_is new.problem (with_shifts l to) done)) are

    pub changed-kept : (items : List Item) (new : Layout) → new.problem ≡ with_shifts l to → items ≡ others → All IsItem others → All (IsNamed tree.views) others → IsCounted tree.views setting.next_row new.problem
        → IsKept (scene_at tree new_ms items setting new)
    changed-kept items new done items_is each named counted =
        subst (λ (hs : List Item). IsKept (scene_at tree new_ms hs setting new)) (sym items_is)
        (record { are_rows = changed-are new done; each = each; named = named; next = kept.next; top = kept.top; counted = counted })

    pub changed-posed : (p : Problem) → p ≡ with_shifts l to → IsProblemOf (record (scene_at tree ms held setting l) { metrics = new_ms; held = others; stays = moved l.problem.stays l.values }) p
    changed-posed p made = (
      subst (AreRows new_ms others) (sym (rows_is p (with_shifts l to) made)) are,
      stays_is p (with_shifts l to) made ∙ sym moves,
    )

  pub views-posed : (new_tree : ViewTree) (id n : ℕ) (more : List Row) (p : Problem) → more ≡ rows_of_views setting.next_row id n → p ≡ with_added l (attributes_from id n) more
      → IsProblemOf (views_draft (scene_at tree ms held setting l) new_tree id n) p
  views-posed new_tree id n more p more_is made = (
    subst (AreRows ms (held ++ view_items setting.next_row id n)) (sym (rows_is p (with_added l (attributes_from id n) more) made)) (views-are id n more more_is),
    stays_is p (with_added l (attributes_from id n) more) made ∙ sym (views-move id n),
  )

-- ---- views that come are in no conflict

pub views-free : (l : Layout) (next id n budget : ℕ) (more : List Row) (s : RunStop) → IsWhole l.problem → AreBest l.problem l.values
    → IsWhole (with_added l (attributes_from id n) more) → All (λ s. s.attr ≤ 4 * id) l.problem.stays → more ≡ rows_of_views next id n
    → IsStopFrom (from_corner l more) (with_added l (attributes_from id n) more) budget s → NoConflict s
views-free l next id n budget more (run.Conflict by) whole best new_whole before more_is shown =
    views-possible l.problem best.best.0 (stays_at (l.values ++ zeros (attributes_from id n))) next id n best.best.1.0 whole.covered before
    (subst (λ (rs : List Row). IsInConflict (record { rows = l.problem.rows ++ rs; stays = stays_at (l.values ++ zeros (attributes_from id n)) })) more_is
    (refutation-IsInConflict (with_added l (attributes_from id n) more) (whole-IsProblem (with_added l (attributes_from id n) more) new_whole) (λ m. times_of by (Held m)) shown.refutes))
views-free l next id n budget more (run.Unfit at) whole best new_whole before more_is stops = tt
views-free l next id n budget more (run.Spent path) whole best new_whole before more_is stops = tt
views-free l next id n budget more run.OutOfMemory whole best new_whole before more_is stops = tt
