-- What leaves a scene: a group of lines, a suggestion, a view's size, or a view with all below it.
use Rattle.std.specs.Prelude.{ℕ, Bool, List}
use Rattle.problem_core.specs.Layout.{Problem}
use Rattle.view_tree.specs.Drops as tree
use Rattle.script_text.specs.declared.words.AttrWord.{AttrWord}
use Rattle.held_items.specs.Items.{Item, is_intrinsic, is_suggestion}
use Rattle.scenes.specs.Scene.{Scene, moved}
use Rattle.held_items.specs.Leaving.{attributes_in, goes_with, is_in_group, numbers_of, staying}
use Rattle.layout_solver.specs.Removals.{Leaving, other_stays}

-- the problem of the scene, with the stays moved to the values
abbrev pub stood_of : Scene → Problem
stood_of scene = record { rows = scene.rows; stays = moved scene.stays scene.values }

-- without those items that go, none of which is a view
abbrev pub without_items : Scene → (Item → Bool) → Scene
without_items old goes = record old { held = staying goes old.held; stays = moved old.stays old.values }

-- without the lines of the group
abbrev pub without_group : Scene → List ℕ → Scene
without_group old group = without_items old (is_in_group group)

-- without the suggestion of this attribute
abbrev pub without_suggestion : Scene → ℕ → AttrWord → Scene
without_suggestion old view word = without_items old (is_suggestion view word)

-- without the size that the view would like
abbrev pub without_intrinsic : Scene → ℕ → Scene
without_intrinsic old view = without_items old (is_intrinsic view)

-- the rows of what goes with these views, and their attributes
abbrev pub leaving_with : List ℕ → List Item → Leaving
leaving_with gone held = record { rows = numbers_of (goes_with gone) held; attrs = attributes_in gone }

-- without these views, their stays, suggestions and sizes, and the lines that name one of them
abbrev pub without_views : Scene → List ℕ → Scene
without_views old gone = record old {
  tree = tree.without old.tree gone;
  held = staying (goes_with gone) old.held;
  stays = other_stays (attributes_in gone) (moved old.stays old.values);
}
