-- The scene: what a script has said so far, the rows that this stands for, and the values that it has led to.
use Rattle.std.specs.Prelude.{◌≡◌, ℕ, ◌+◌, ◌*◌, Bool, true, false, List, [], ◌∷◌, ◌++◌, length, cond, take}
use Rattle.std.specs.Prelude.{is_some, map}
use Rattle.frac_core.specs.Fraction.{Fraction}
use Rattle.name_tables.specs.Names.{names_of, place_of, with_value}
use Rattle.problem_core.specs.declared.parts.Mark.{Mark}
use Rattle.problem_core.specs.declared.parts.Stay.{Stay}
use Rattle.problem_core.specs.Gaps.{value_of}
use Rattle.problem_core.specs.Layout.{Row, Problem}
use Rattle.problem_core.specs.Window.{structural_rows, zero_fraction}
use Rattle.view_tree.specs.Attributes.{left_of, top_of, width_of, height_of}
use Rattle.view_tree.specs.Views.{ViewTree, first_tree}
use Rattle.view_tree.specs.declared.limits.TheConstants.{VIEW_LIMIT}
use Rattle.view_tree.specs.JsonTrees.{Branch, size}
use Rattle.compile_parts.specs.Meaning.{MetricList}
use Rattle.constraint_compile.specs.Compiled.{CompiledLine}
use Rattle.layout_solver.specs.Begins.{IsReached}
use Rattle.stay_orders.specs.Orders.{with_front}
use Rattle.layout_solver.specs.Layouts.{AreBest, stays_at, zeros}
use Rattle.script_text.specs.declared.words.AttrWord.{AttrWord}
use Rattle.script_text.specs.declared.words.Direction.{Direction}
use Rattle.script_text.specs.declared.words.Direction.TheVariants.{Ltr}
use Rattle.constraint_compile.specs.declared.suggestion.Suggestion.{Suggestion}
use Rattle.held_items.specs.Items.{Item, OfWindow, OfView, Sized, OfLine, Suggested, Intrinsic, AreRows}
use Rattle.held_items.specs.Items.{has_size, intrinsic_again, resized, suggested_again, view_items}
use Rattle.held_items.specs.declared.item.intrinsic.IntrinsicSize.{IntrinsicSize}
use Rattle.held_items.specs.Attributes.{all_attributes, attributes_from, view_attributes}
use Rattle.held_items.specs.declared.row_numbers.TheConstants.{FIRST_FREE_ROW, INTRINSIC_ROWS, SIZE_ROWS}
use Rattle.held_items.specs.declared.row_numbers.TheConstants.{VIEW_ROWS}
use Rattle.view_tree.specs.Views as tree
use Rattle.view_tree.specs.JsonTrees as branches

-- the views, the metrics in order of definition, what is held in order of acceptance, the number that the
-- next row takes, the direction of later lines and suggestions, the rows by rising number, the stays,
-- stronger ones first, the values in the stays' order, and the marks inside at the corner that is kept for
-- them
pub record Scene : Type 0 where
  pub tree : ViewTree
  pub metrics : MetricList
  pub held : List Item
  pub next_row : ℕ
  pub direction : Direction
  pub rows : List Row
  pub stays : List Stay
  pub values : List (ℕ × Fraction)
  pub corner : List Mark

-- a scene, those before it, the latest first, and how many these may be
pub record History : Type 0 where
  pub scene : Scene
  pub earlier : List Scene
  pub undo : ℕ

-- the earlier scenes after one more step: the oldest of too many is forgotten
abbrev pub with_earlier : ℕ → Scene → List Scene → List Scene
with_earlier most scene earlier = take most (scene ∷ earlier)

-- after a step the earlier scenes are these, and as many may be
abbrev pub Remembers : History → History → Type 0
Remembers old new = (new.earlier ≡ with_earlier old.undo old.scene old.earlier) × (new.undo ≡ old.undo)

-- the problem of the scene's rows and stays
abbrev pub problem_of : Scene → Problem
problem_of scene = record { rows = scene.rows; stays = scene.stays }

-- ---- changes

-- stays of the same attributes, at their values
abbrev pub moved : List Stay → List (ℕ × Fraction) → List Stay
moved stays values = map (λ s. record { attr = s.attr; target = value_of values s.attr }) stays

-- the four attributes of a view, at 0
abbrev pub new_values : ℕ → List (ℕ × Fraction)
new_values id =
    (left_of id, zero_fraction) ∷ (top_of id, zero_fraction) ∷ (width_of id, zero_fraction)
    ∷ (height_of id, zero_fraction) ∷ []

-- the stays of these attributes, at 0
abbrev pub new_stays : ℕ → List Stay
new_stays id = stays_at (new_values id)

-- those of so many views, of which the first has this number
abbrev pub new_stays_from : ℕ → ℕ → List Stay
new_stays_from id count = stays_at (zeros (attributes_from id count))

-- In each draft that follows the stays have moved to the values before. Its rows, values and corner are still
-- those before.

-- with a view more, whose two rows have the next numbers
abbrev pub with_view : Scene → List ℕ → ℕ → Scene
with_view old name parent = record old {
  tree = tree.with_view old.tree name parent;
  held = old.held ++ OfView old.next_row old.tree.next ∷ [];
  next_row = old.next_row + VIEW_ROWS;
  stays = moved old.stays old.values ++ new_stays old.tree.next;
}

-- with the views of a branch more, each before those in it, and two rows of each
abbrev pub with_branch : Scene → ℕ → Branch → Scene
with_branch old parent b = record old {
  tree = branches.with_branch old.tree parent b;
  held = old.held ++ view_items old.next_row old.tree.next (size b);
  next_row = old.next_row + VIEW_ROWS * size b;
  stays = moved old.stays old.values ++ new_stays_from old.tree.next (size b);
}

-- the metrics, of which the one of this name has this value
abbrev pub metrics_with : MetricList → List ℕ → Fraction → MetricList
metrics_with metrics name value =
    cond (is_some (place_of (names_of metrics) name)) (with_value metrics name value)
    (metrics ++ (name, value) ∷ [])

-- with this value of the metric of this name
abbrev pub with_metric : Scene → List ℕ → Fraction → Scene
with_metric old name value =
    record old { metrics = metrics_with old.metrics name value; stays = moved old.stays old.values }

-- a window without a size takes two rows; otherwise only its size changes
abbrev pub held_with_size : Bool → ℕ → Fraction → Fraction → List Item → List Item
held_with_size false n width height held = held ++ Sized n width height ∷ []
held_with_size true n width height held = resized width height held

-- the number that the next row takes then
abbrev pub next_with_size : Bool → ℕ → ℕ
next_with_size false n = n + SIZE_ROWS
next_with_size true n = n

-- with this size of the window
abbrev pub with_window : Scene → Fraction → Fraction → Scene
with_window old width height = record old {
  held = held_with_size (has_size old.held) old.next_row width height old.held;
  next_row = next_with_size (has_size old.held) old.next_row;
  stays = moved old.stays old.values;
}

-- with another direction
abbrev pub with_direction : Scene → Direction → Scene
with_direction old to = record old { direction = to; stays = moved old.stays old.values }

-- with the stays of this view first
abbrev pub with_kept : Scene → ℕ → Scene
with_kept old view =
    record old { stays = with_front (view_attributes view) (moved old.stays old.values) }

-- with an item more, which has so many rows
abbrev pub with_item : Scene → Item → ℕ → Scene
with_item old item count = record old {
  held = old.held ++ item ∷ [];
  next_row = old.next_row + count;
  stays = moved old.stays old.values;
}

-- with a line of a group more
abbrev pub with_line : Scene → List ℕ → CompiledLine → Scene
with_line old group line = with_item old (OfLine group line) (length line.rows)

-- with a suggestion more, whose row takes the next number
abbrev pub with_suggestion : Scene → Suggestion → Scene
with_suggestion old s = with_item old (Suggested s) 1

-- with another constant in the row of a suggestion
abbrev pub with_suggested : Scene → ℕ → AttrWord → Fraction → Scene
with_suggested old view word constant = record old {
  held = suggested_again view word constant old.held;
  stays = moved old.stays old.values;
}

-- with the size that a view would like, whose rows take the next numbers
abbrev pub with_intrinsic : Scene → IntrinsicSize → Scene
with_intrinsic old s = with_item old (Intrinsic s) INTRINSIC_ROWS

-- with another width and height in place of those that the view would like
abbrev pub with_preferred : Scene → ℕ → Fraction → Fraction → Scene
with_preferred old view width height = record old {
  held = intrinsic_again view width height old.held;
  stays = moved old.stays old.values;
}

-- the rows that a draft stands for
abbrev pub AreDraftRows : Scene → List Row → Type 0
AreDraftRows draft rows = AreRows draft.metrics draft.held rows

-- the problem of a draft, where these are its rows
abbrev pub draft_problem : Scene → List Row → Problem
draft_problem draft rows = record { rows = rows; stays = draft.stays }

-- all but the rows, the values and the corner is as drafted, the rows are those of what is held, the values
-- are the best, and stand at the corner, which is an end
pub record Becomes (draft new : Scene) : Type 0 where
  pub same : new ≡ record draft { rows = new.rows; values = new.values; corner = new.corner }
  pub rows : AreDraftRows draft new.rows
  pub best : AreBest (problem_of new) new.values
  pub reached : IsReached (problem_of new) new.corner new.values

-- the values are the best for the rows and stays
abbrev pub IsBestScene : Scene → Type 0
IsBestScene scene = AreBest (problem_of scene) scene.values

-- the values by attribute number, whatever the order of the stays
abbrev pub values_by_number : Scene → List (ℕ × Fraction)
values_by_number scene = map (λ a. (a, value_of scene.values a)) (all_attributes scene.tree.views)

-- ---- the first scene

-- the window alone, with its four rows, no size, and every value 0; at most so many views may be live, and
-- these are the marks inside
abbrev pub first_scene_of : ℕ → List Mark → Scene
first_scene_of views corner = record {
  tree = first_tree views;
  metrics = [];
  held = OfWindow ∷ [];
  next_row = FIRST_FREE_ROW;
  direction = Ltr;
  rows = structural_rows;
  stays = new_stays 0;
  values = new_values 0;
  corner = corner;
}

-- the same with the greatest limit of live views
abbrev pub first_scene : List Mark → Scene
first_scene corner = first_scene_of VIEW_LIMIT corner

-- the same with no earlier scene, of which so many may be
abbrev pub first_history : (views undo : ℕ) → List Mark → History
first_history views undo corner = record {
  scene = first_scene_of views corner;
  earlier = [];
  undo = undo;
}

-- these are the marks of a corner of its problem that is an end, at which its values stand
abbrev pub IsFirstCorner : List Mark → Type 0
IsFirstCorner corner = IsReached (problem_of (first_scene corner)) corner (new_values 0)
