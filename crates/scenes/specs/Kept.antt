-- What a scene keeps, and its parts.
use Rattle.std.specs.Prelude.{◌≡◌, ℕ, ◌+◌, ◌<◌, ◌≤◌, List, [], ◌∷◌, All, length, Option, Some, None}
use Rattle.compile_parts.specs.Meaning.{MetricList}
use Rattle.view_tree.specs.Views.{ViewTree}
use Rattle.problem_core.specs.Layout.{Row}
use Rattle.version_lists.specs.Versions.{Versions}
use Rattle.layout_solver.specs.Layouts.{Layout, Solution, solution_of}
use Rattle.scenes.specs.declared.scene.past.Past.{Past}
use Rattle.scenes.specs.declared.scene.past.Setting.{Setting}
use Rattle.held_items.specs.Items.{Item, AreItemRows, AreRows}
use Rattle.scenes.specs.Scene.{History, Scene, problem_of}
use Rattle.held_items.specs.Attributes.{IsCounted, MayBeAdded, all_attributes}
use Rattle.held_items.specs.declared.limits.TheConstants.{EARLIER, MOST_ROWS}
use Rattle.problem_core.specs.declared.limits.TheConstants.{NUMBER_LIMIT}
use Rattle.held_items.specs.Kept.{items_of, IsItem, IsNamed}
use Rattle.held_items.specs.declared.item.Item as declared

-- the layout of no attribute
abbrev pub no_layout : Layout
no_layout = record { problem = record { rows = []; stays = [] }; values = []; corner = []; earlier = [] }

-- the scene of these parts
abbrev pub scene_of : ViewTree → MetricList → List Item → Setting → Solution → Scene
scene_of tree metrics held setting s = record {
  tree = tree;
  metrics = metrics;
  held = held;
  next_row = setting.next_row;
  direction = setting.direction;
  rows = s.problem.rows;
  stays = s.problem.stays;
  values = s.values;
  corner = s.corner;
}

-- the same, with the solution of a layout
abbrev pub scene_at : ViewTree → MetricList → List Item → Setting → Layout → Scene
scene_at tree metrics held setting layout =
    scene_of tree metrics held setting (solution_of layout)

-- what an earlier scene has, if it isn't what the scene after it has
abbrev pub own_or : {A : Type 0} → Option A → A → A
own_or None after = after
own_or (Some own) after = own

-- the earlier scenes, the latest first: what each holds, its solution, and those other parts that are its own
abbrev pub earlier_at : ViewTree → MetricList → List (List declared.Item) → List Solution → List Past
    → List Scene
earlier_at tree metrics [] solutions pasts = []
earlier_at tree metrics (items ∷ rest) [] pasts = []
earlier_at tree metrics (items ∷ rest) (s ∷ solutions) [] = []
earlier_at tree metrics (items ∷ rest) (s ∷ solutions) (p ∷ pasts) =
    scene_of (own_or p.tree tree) (own_or p.metrics metrics) (items_of items) p.setting s
    ∷ earlier_at (own_or p.tree tree) (own_or p.metrics metrics) rest solutions pasts

-- the scene of these parts, with the earlier ones and their limit
abbrev pub history_at : ViewTree → MetricList → Versions declared.Item → Setting → Layout → List Past
    → ℕ → History
history_at tree metrics items setting layout pasts undo = record {
  scene = scene_at tree metrics (items_of items.items) setting layout;
  earlier = earlier_at tree metrics items.before layout.earlier pasts;
  undo = undo;
}

-- the rows are those of what is held, and a row more would have a number that fits
pub record IsKept (scene : Scene) : Type 0 where
  pub are_rows : AreRows scene.metrics scene.held scene.rows
  pub each : All IsItem scene.held
  pub named : All (IsNamed scene.tree.views) scene.held
  pub next : 0 < scene.next_row
  pub top : scene.next_row ≤ NUMBER_LIMIT
  pub counted : IsCounted scene.tree.views scene.next_row (problem_of scene)

-- the item may be held next, these are its rows, and there is room for them
pub record IsNextItem (scene : Scene) (item : Item) (more : List Row) : Type 0 where
  pub own : AreItemRows scene.metrics item more
  pub is : IsItem item
  pub named : IsNamed scene.tree.views item
  pub may : MayBeAdded (all_attributes scene.tree.views) scene.next_row more
  pub below : All (λ r. r.id < scene.next_row + length more) more
  pub ranks : All (λ r. 0 < r.rank) more
  pub room : length scene.rows + length more ≤ MOST_ROWS

-- there are as many earlier versions of each part, and not too many
pub record AreAlike (most : ℕ) (held : List (List declared.Item)) (solved : List Solution)
    (pasts : List Past) : Type 0 where
  pub items : length held ≡ length pasts
  pub solutions : length solved ≡ length pasts
  pub few : length pasts ≤ most
  pub limit : most ≤ EARLIER

-- what the scene and each earlier one keep
pub record IsKeptHistory (history : History) : Type 0 where
  pub scene : IsKept history.scene
  pub earlier : All IsKept history.earlier
