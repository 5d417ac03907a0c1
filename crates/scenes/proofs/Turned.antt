-- A scene in another direction: the rows and the values are as before, and the stays stand at these.
use Rattle.std.proofs.Common.{◌≡◌, List, [], refl}
use Rattle.view_tree.specs.Views.{ViewTree}
use Rattle.compile_parts.specs.Meaning.{MetricList}
use Rattle.script_text.specs.declared.words.Direction.{Direction}
use Rattle.layout_solver.specs.Layouts.{IsKeptLayout, Layout}
use Rattle.layout_solver.specs.Removals.{stood}
use Rattle.held_items.specs.Items.{Item}
use Rattle.scenes.specs.Kept.{IsKept, scene_at}
use Rattle.scenes.specs.declared.scene.past.Setting.{Setting}
use Rattle.scenes.proofs.Engines.Additions.{counted-shifted}
use Rattle.scenes.proofs.Engines.Posed.{changed-kept, is}

-- the setting, with this direction
abbrev pub turned : Setting → Direction → Setting
turned setting to = record { next_row = setting.next_row; direction = to }

module _ (tree : ViewTree) (ms : MetricList) (held : List Item) (setting : Setting) (l : Layout) (kept : IsKept (scene_at tree ms held setting l)) (sound : IsKeptLayout l)
    (to : Direction) (new : Layout) (stands : new.problem ≡ stood l) where
  pub turned-kept : IsKept (scene_at tree ms held (turned setting to) new)
  turned-kept =
      let same : IsKept (scene_at tree ms held setting new) =
      changed-kept tree ms held setting l kept sound ms held [] kept.are_rows held new stands refl kept.each kept.named
      (counted-shifted tree.views setting.next_row l [] new.problem (is tree ms held setting l kept sound).attributes kept.counted stands) in
      record { are_rows = same.are_rows; each = same.each; named = same.named; next = same.next; top = same.top; counted = same.counted }
