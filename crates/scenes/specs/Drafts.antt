-- Drafts, the changes of a scene: the scene that each leads to, when it is allowed, and how its step ends.
use Rattle.std.specs.Prelude.{◌≡◌, ◌≢◌, ℕ, List, [], ◌∷◌, length, ◌≤◌, ◌+◌, ◌*◌, ◌++◌, All, Some, false}
use Rattle.problem_core.specs.Kept.{IsRow}
use Rattle.problem_core.specs.Layout.{Row}
use Rattle.problem_core.specs.declared.limits.TheConstants.{NUMBER_LIMIT}
use Rattle.constraint_compile.specs.declared.suggestion.Suggestion.{Suggestion}
use Rattle.constraint_compile.specs.Compiled.{AreRowsNow}
use Rattle.constraint_compile.specs.Suggestions.{suggested_row}
use Rattle.compile_parts.specs.Meaning.{MetricList, IsRowRank}
use Rattle.view_tree.specs.Views.{ViewTree, LiveView, view_named}
use Rattle.view_tree.specs.Drops.{AreGoing}
use Rattle.held_items.specs.declared.item.Item as declared
use Rattle.held_items.specs.declared.item.coming.NewViews.{NewViews}
use Rattle.held_items.specs.declared.item.intrinsic.IntrinsicSize.{IntrinsicSize}
use Rattle.held_items.specs.declared.item.leaving.Leaver.{Leaver}
use Rattle.held_items.specs.declared.item.leaving.Leaver.TheVariants as leaver
use Rattle.held_items.specs.declared.item.new_item.NewItem.{NewItem}
use Rattle.held_items.specs.declared.item.renewing.Renewal.{Renewal}
use Rattle.held_items.specs.declared.item.renewing.Renewal.TheVariants as renewal
use Rattle.held_items.specs.declared.limits.TheConstants.{MOST_ROWS}
use Rattle.held_items.specs.declared.row_numbers.TheConstants.{VIEW_ROWS}
use Rattle.held_items.specs.Attributes.{IsGrown, IsNextLine}
use Rattle.held_items.specs.Items.{Item, OfWindow, OfView, Sized, OfLine, Suggested, Intrinsic, Size}
use Rattle.held_items.specs.Items.{has_size, intrinsic_of, intrinsic_rows, size_of, size_rows, suggestion_of}
use Rattle.held_items.specs.Items.{view_items}
use Rattle.held_items.specs.Kept.{item_of, renewed_by}
use Rattle.held_items.specs.Moving.{FitsAfter}
use Rattle.scenes.specs.declared.scene.draft.Draft.{Draft}
use Rattle.scenes.specs.declared.scene.draft.Draft.TheVariants as draft
use Rattle.scenes.specs.Leaving.{without_group, without_intrinsic, without_suggestion, without_views}
use Rattle.scenes.specs.Moving.{AreChangesFor}
use Rattle.scenes.specs.Scene.{Scene, moved, new_stays_from, values_by_number}
use Rattle.scenes.specs.Scene.{with_direction, with_item, with_kept}

-- ---- the draft's scene

-- with this tree, of which so many views are new, the first of this number
abbrev pub views_draft : Scene → ViewTree → ℕ → ℕ → Scene
views_draft old tree id count = record old {
  tree = tree;
  held = old.held ++ view_items old.next_row id count;
  next_row = old.next_row + VIEW_ROWS * count;
  stays = moved old.stays old.values ++ new_stays_from id count;
}

-- with new views
abbrev pub coming_draft : Scene → NewViews → Scene
coming_draft old new = views_draft old new.tree new.first_view.0 new.count

-- with these metrics
abbrev pub metrics_draft : Scene → MetricList → Scene
metrics_draft old metrics = record old { metrics = metrics; stays = moved old.stays old.values }

-- with a new item and its rows
abbrev pub item_draft : Scene → declared.Item → List Row → Scene
item_draft old item rows = with_item old (item_of item) (length rows)

-- with changed constants of an item
abbrev pub renewed_draft : Scene → Renewal → Scene
renewed_draft old renewal =
    record old { held = renewed_by renewal old.held; stays = moved old.stays old.values }

-- without what leaves
abbrev pub left_draft : Scene → Leaver → Scene
left_draft old (leaver.Group name) = without_group old name
left_draft old (leaver.Views gone) = without_views old gone.items
left_draft old (leaver.Suggestion view word) = without_suggestion old view word
left_draft old (leaver.Intrinsic view) = without_intrinsic old view

-- the scene that a draft leads to, except for rows, values and corner
abbrev pub drafted : Scene → Draft → Scene
drafted old (draft.Views new) = coming_draft old new
drafted old (draft.Metrics new) = metrics_draft old new.metrics
drafted old (draft.More new) = item_draft old new.item new.rows.items
drafted old (draft.Renewed to) = renewed_draft old to
drafted old (draft.Out leaver) = left_draft old leaver
drafted old (draft.Turn to) = with_direction old to
drafted old (draft.Keep view) = with_kept old view.0

-- ---- when a draft is allowed

-- there is room for `count` more rows, and their numbers fit
pub record HasRoomFor (scene : Scene) (count : ℕ) : Type 0 where
  pub rows : length scene.rows + count ≤ MOST_ROWS
  pub numbers : scene.next_row + count ≤ NUMBER_LIMIT

-- the new tree has the scene's views, and `count` more with numbers from this one on
abbrev pub AreComing : Scene → NewViews → Type 0
AreComing old new = IsGrown old.tree.views new.tree.views new.first_view.0 new.count

-- the suggestion's row has the next number, its rank is one that a priority stands for, and its view is there
pub record IsNextSuggestion (scene : Scene) (s : Suggestion) : Type 0 where
  pub row : s.row ≡ scene.next_row
  pub rank : IsRowRank s.rank
  pub name : List ℕ
  pub view : LiveView
  pub found : view_named scene.tree.views name ≡ Some view
  pub same : s.view ≡ view.id

-- it is held, and no constant moves too far
pub record IsNearSuggestion (scene : Scene) (s : Suggestion) : Type 0 where
  pub before : Suggestion
  pub found : suggestion_of s.view s.word scene.held ≡ Some before
  pub row : s.row ≡ before.row
  pub near : FitsAfter before.constant s.constant

-- the size's rows have the next numbers, its ranks are such as priorities stand for, and its view is there
pub record IsNextIntrinsic (scene : Scene) (s : IntrinsicSize) : Type 0 where
  pub row : s.first_row ≡ scene.next_row
  pub resist : IsRowRank s.resist
  pub hug : IsRowRank s.hug
  pub name : List ℕ
  pub view : LiveView
  pub found : view_named scene.tree.views name ≡ Some view
  pub same : s.view ≡ view.id

-- it is held with these ranks, and no constant moves too far
pub record IsNearIntrinsic (scene : Scene) (s : IntrinsicSize) : Type 0 where
  pub before : IntrinsicSize
  pub found : intrinsic_of s.view scene.held ≡ Some before
  pub row : s.first_row ≡ before.first_row
  pub resist : s.resist ≡ before.resist
  pub hug : s.hug ≡ before.hug
  pub width : FitsAfter before.width s.width
  pub height : FitsAfter before.height s.height

-- the view of this name has this number
abbrev pub IsViewNamed : Scene → List ℕ → ℕ → Type 0
IsViewNamed scene name id =
    (view : LiveView) × (view_named scene.tree.views name ≡ Some view) × (id ≡ view.id)

-- a view has this number
abbrev pub IsThere : Scene → ℕ → Type 0
IsThere scene id = (name : List ℕ) × IsViewNamed scene name id

-- what gets them is held, with rows of these numbers, and no constant moves too far
abbrev pub IsNearRenewal : Scene → Renewal → Type 0
IsNearRenewal scene (renewal.Size held) = (before : Size) × (size_of scene.held ≡ Some before)
    × (held.first_row ≡ before.first_row) × FitsAfter before.width held.size.width
    × FitsAfter before.height held.size.height
IsNearRenewal scene (renewal.Suggestion again) = IsNearSuggestion scene again
IsNearRenewal scene (renewal.Intrinsic again) = IsNearIntrinsic scene again

-- this can leave. Views leave together with all views below them, and the window stays
abbrev pub MayLeave : List LiveView → Leaver → Type 0
MayLeave views (leaver.Group name) = Unit {0}
MayLeave views (leaver.Views gone) = (root : ℕ) × (root ≢ 0) × AreGoing views root gone.items
MayLeave views (leaver.Suggestion view word) = Unit {0}
MayLeave views (leaver.Intrinsic view) = Unit {0}

-- the item can be added next, with these rows. Views come with a tree instead
abbrev pub MayComeNext : Scene → Item → List Row → Type 0
MayComeNext old OfWindow rows = ⊥
MayComeNext old (OfView first_row id) rows = ⊥
MayComeNext old (Sized first_row width height) rows = (first_row ≡ old.next_row)
    × (has_size old.held ≡ false) × (rows ≡ size_rows first_row width height)
MayComeNext old (OfLine group line) rows =
    AreRowsNow old.metrics line.rows rows × IsNextLine old.tree.views old.next_row line
MayComeNext old (Suggested s) rows = IsNextSuggestion old s × (rows ≡ suggested_row s ∷ [])
MayComeNext old (Intrinsic s) rows = IsNextIntrinsic old s × (rows ≡ intrinsic_rows s)

-- the item can be added, and there is room for its rows
pub record MayHold (old : Scene) (new : NewItem) : Type 0 where
  pub next : MayComeNext old (item_of new.item) new.rows.items
  pub each : All IsRow new.rows.items
  pub room : HasRoomFor old (length new.rows.items)

-- the scene can make the draft's change
abbrev pub MayTake : Scene → Draft → Type 0
MayTake old (draft.Views new) =
    AreComing old new × HasRoomFor old (VIEW_ROWS * new.count) × (new.tree.most ≡ old.tree.most)
MayTake old (draft.Metrics new) = AreChangesFor old new.metrics new.to.items
MayTake old (draft.More new) = MayHold old new
MayTake old (draft.Renewed to) = IsNearRenewal old to
MayTake old (draft.Out leaver) = MayLeave old.tree.views leaver
MayTake old (draft.Turn to) = Unit {0}
MayTake old (draft.Keep view) = IsThere old view.0

-- ---- how the step ends

-- the ways in which a step can end. `Free`: solved, or stopped without a conflict. `Any`: solved, or stopped.
-- `Left`: like a removal. `Turned`: accepted without a run
pub data Kind : Type 0 where
  Free : Kind
  Any : Kind
  Left : Kind
  Turned : Kind

-- how the step to a draft can end
abbrev pub kind_of : Draft → Kind
kind_of (draft.Views new) = Free
kind_of (draft.Metrics new) = Any
kind_of (draft.More new) = Any
kind_of (draft.Renewed to) = Any
kind_of (draft.Out leaver) = Left
kind_of (draft.Turn to) = Turned
kind_of (draft.Keep view) = Free

-- if no row changes, no value does
abbrev pub KeepsValues : Draft → Scene → Scene → Type 0
KeepsValues (draft.Views new) old after = Unit {0}
KeepsValues (draft.Metrics new) old after = Unit {0}
KeepsValues (draft.More new) old after = Unit {0}
KeepsValues (draft.Renewed to) old after = Unit {0}
KeepsValues (draft.Out leaver) old after = Unit {0}
KeepsValues (draft.Turn to) old after = values_by_number after ≡ values_by_number old
KeepsValues (draft.Keep view) old after = values_by_number after ≡ values_by_number old
