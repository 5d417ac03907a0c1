-- A scene of what is held and the engine, once these are kept.
use Rattle.std.proofs.Common.{◌≡◌, ◌∙◌, List, sym, ap}
use Rattle.view_tree.specs.Views.{ViewTree}
use Rattle.compile_parts.specs.Meaning.{MetricList}
use Rattle.layout_solver.specs.Layouts.{Layout, solution_of}
use Rattle.held_items.specs.declared.item.Item as declared
use Rattle.held_items.specs.Kept.{items_of}
use Rattle.scenes.specs.Kept.{scene_at}
use Rattle.scenes.proofs.Histories.{same-scene}
use Rattle.scenes.specs.declared.scene.past.Setting.{Setting}

pub kept-scene : (tree : ViewTree) (metrics : MetricList) (items kept : List declared.Item) (setting : Setting) (layout after : Layout)
    → kept ≡ items → solution_of after ≡ solution_of layout
    → scene_at tree metrics (items_of items) setting layout ≡ scene_at tree metrics (items_of kept) setting after
kept-scene tree metrics items kept setting layout after same alike =
    ap (λ (is : List declared.Item). scene_at tree metrics (items_of is) setting layout) (sym same)
    ∙ same-scene tree metrics (items_of kept) setting layout after (sym alike)
