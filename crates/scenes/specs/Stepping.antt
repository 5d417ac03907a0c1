-- The step of a scene to a draft, worked out before anything changes.
use Rattle.std.specs.Prelude.{◌≡◌, ℕ, ◌+◌, ◌*◌, ◌<◌, ◌≤◌, List, [], ◌∷◌, ◌++◌, All, AllPairs}
use Rattle.std.specs.Prelude.{Option, Some, None}
use Rattle.problem_core.specs.Kept.{IsRow}
use Rattle.problem_core.specs.Window.{structural_rows}
use Rattle.problem_core.specs.declared.limits.TheConstants.{NUMBER_LIMIT}
use Rattle.view_tree.specs.declared.limits.TheConstants.{ID_LIMIT}
use Rattle.layout_solver.specs.declared.request.Request.{Request}
use Rattle.layout_solver.specs.declared.request.Request.TheVariants as request
use Rattle.layout_solver.specs.declared.request.RequestStop.{RequestStop}
use Rattle.layout_solver.specs.Keeping.{NoConflict}
use Rattle.layout_solver.specs.Layouts.{Layout}
use Rattle.layout_solver.specs.Requests.{CanSolve, IsRequestStop, posed_by, run_of}
use Rattle.held_items.specs.declared.row_numbers.TheConstants.{VIEW_ROWS}
use Rattle.view_tree.specs.Drops.{without}
use Rattle.view_tree.specs.Views.{ViewTree}
use Rattle.held_items.specs.declared.item.leaving.Leaver.{Leaver}
use Rattle.held_items.specs.declared.item.leaving.Leaver.TheVariants as leaver
use Rattle.held_items.specs.Attributes.{attributes_from, view_attributes}
use Rattle.held_items.specs.Items.{Item, rows_of_views, view_items}
use Rattle.held_items.specs.Kept.{is_leaving, item_of, leaving_attributes, renewed_by}
use Rattle.held_items.specs.Leaving.{numbers_of, staying}
use Rattle.scenes.specs.declared.scene.draft.Draft.{Draft}
use Rattle.scenes.specs.declared.scene.draft.Draft.TheVariants as draft
use Rattle.scenes.specs.declared.scene.step.Holding.{Holding}
use Rattle.scenes.specs.declared.scene.step.Holding.TheVariants as holding
use Rattle.scenes.specs.declared.scene.step.Step.{Step}
use Rattle.scenes.specs.Drafts.{Kind, Any, Free, Left, Turned, drafted, kind_of}
use Rattle.scenes.specs.Kept.{IsKept, own_or}
use Rattle.scenes.specs.Scene.{Scene, problem_of}

-- ---- the items

-- what is held afterwards
abbrev pub held_by : Holding → List Item → List Item
held_by (holding.Views first_row id count) held = held ++ view_items first_row id count
held_by (holding.More item) held = held ++ item_of item ∷ []
held_by (holding.Renewed to) held = renewed_by to held
held_by (holding.Out leaver) held = staying (is_leaving leaver) held
held_by holding.Same held = held

-- the numbers of new views and of their rows are below their limits
abbrev pub CanHold : Holding → Type 0
CanHold (holding.Views first_row id count) =
    (first_row + VIEW_ROWS * count ≤ NUMBER_LIMIT) × (id + count ≤ ID_LIMIT)
CanHold (holding.More item) = Unit {0}
CanHold (holding.Renewed to) = Unit {0}
CanHold (holding.Out leaver) = Unit {0}
CanHold holding.Same = Unit {0}

-- ---- the request

-- rows join, constants change, or stays come first
abbrev pub NeedsRun : Request → Type 0
NeedsRun (request.Add attrs rows) = Unit {0}
NeedsRun (request.Shift to) = Unit {0}
NeedsRun (request.Remove rows attrs) = ⊥
NeedsRun (request.Keep attrs) = Unit {0}
NeedsRun request.Stand = ⊥

-- rows leave in the order of their numbers
abbrev pub IsRemoval : Request → Type 0
IsRemoval (request.Add attrs rows) = ⊥
IsRemoval (request.Shift to) = ⊥
IsRemoval (request.Remove rows attrs) = AllPairs (λ a b. a < b) rows.items
IsRemoval (request.Keep attrs) = ⊥
IsRemoval request.Stand = ⊥

-- no row and no constant changes
abbrev pub IsStanding : Request → Type 0
IsStanding (request.Add attrs rows) = ⊥
IsStanding (request.Shift to) = ⊥
IsStanding (request.Remove rows attrs) = ⊥
IsStanding (request.Keep attrs) = Unit {0}
IsStanding request.Stand = Unit {0}

-- no stop of the request is a conflict
abbrev pub IsFree : Layout → Request → Type 0
IsFree l r = (budget : ℕ) (stop : RequestStop) → IsRequestStop l r budget stop → NoConflict (run_of stop)

-- the request ends in one of the ways of this kind
abbrev pub IsOfKind : Kind → Layout → Request → Type 0
IsOfKind Free l r = NeedsRun r × IsFree l r
IsOfKind Any l r = NeedsRun r
IsOfKind Left l r = IsRemoval r
IsOfKind Turned l r = r ≡ request.Stand

-- if the draft changes no row, neither does the request
abbrev pub IsStillFor : Draft → Request → Type 0
IsStillFor (draft.Views new) r = Unit {0}
IsStillFor (draft.Metrics new) r = Unit {0}
IsStillFor (draft.More new) r = Unit {0}
IsStillFor (draft.Renewed to) r = Unit {0}
IsStillFor (draft.Out leaver) r = Unit {0}
IsStillFor (draft.Turn to) r = IsStanding r
IsStillFor (draft.Keep view) r = IsStanding r

-- the request adds the rows and attributes of `count` views, the first with these numbers
abbrev pub AreViewsJoining : (first_row id count : ℕ) → Request → Type 0
AreViewsJoining first_row id count (request.Add attrs rows) = (attrs.items ≡ attributes_from id count)
    × (rows.items ≡ rows_of_views first_row id count) × All IsRow rows.items
AreViewsJoining first_row id count (request.Shift to) = ⊥
AreViewsJoining first_row id count (request.Remove rows attrs) = ⊥
AreViewsJoining first_row id count (request.Keep attrs) = ⊥
AreViewsJoining first_row id count request.Stand = ⊥

-- the request adds the rows and attributes of the window
abbrev pub IsFirst : Request → Type 0
IsFirst (request.Add attrs rows) = (attrs.items ≡ view_attributes 0)
    × (rows.items ≡ structural_rows) × All IsRow rows.items
IsFirst (request.Shift to) = ⊥
IsFirst (request.Remove rows attrs) = ⊥
IsFirst (request.Keep attrs) = ⊥
IsFirst request.Stand = ⊥

-- the request removes the rows and attributes of what leaves
abbrev pub AreLeaving : List Item → Leaver → Request → Type 0
AreLeaving held leaver (request.Add attrs rows) = ⊥
AreLeaving held leaver (request.Shift to) = ⊥
AreLeaving held leaver (request.Remove rows attrs) =
    (rows.items ≡ numbers_of (is_leaving leaver) held) × (attrs.items ≡ leaving_attributes leaver)
AreLeaving held leaver (request.Keep attrs) = ⊥
AreLeaving held leaver request.Stand = ⊥

-- ---- the step

-- the tree without the views that leave, or `None` if no view leaves
abbrev pub tree_left : ViewTree → Leaver → Option ViewTree
tree_left tree (leaver.Group name) = None
tree_left tree (leaver.Views gone) = Some (without tree gone.items)
tree_left tree (leaver.Suggestion view word) = None
tree_left tree (leaver.Intrinsic view) = None

-- the step in which views, metrics and setting stay the same
abbrev pub plain_step : Scene → Request → Holding → Step
plain_step old r h = record {
  request = r;
  holding = h;
  own = record {
    tree = None;
    metrics = None;
    setting = record { next_row = old.next_row; direction = old.direction };
  };
}

-- the layout of the scene's problem
abbrev pub layout_of : Scene → Layout
layout_of scene = record {
  problem = problem_of scene;
  values = scene.values;
  corner = scene.corner;
  earlier = [];
}

-- the scene after a step, with the rows and stays of the posed problem, and with the old values and corner
abbrev pub stepped : Scene → Step → Scene
stepped old step = record old {
  tree = own_or step.own.tree old.tree;
  metrics = own_or step.own.metrics old.metrics;
  held = held_by step.holding old.held;
  next_row = step.own.setting.next_row;
  direction = step.own.setting.direction;
  rows = (posed_by (layout_of old) step.request).rows;
  stays = (posed_by (layout_of old) step.request).stays;
}

-- The engine can solve the request, which ends in one of the ways of the draft's kind. The items can change
-- as the step says. The scene is the draft then, with the rows of what it holds.
pub record IsStepTo (old : Scene) (to : Draft) (step : Step) : Type 0 where
  pub can : CanSolve (layout_of old) step.request
  pub kind : IsOfKind (kind_of to) (layout_of old) step.request
  pub still : IsStillFor to step.request
  pub holds : CanHold step.holding
  pub becomes : stepped old step ≡ record (drafted old to) { rows = (stepped old step).rows }
  pub kept : IsKept (stepped old step)
