-- The changes for another value of a metric.
use Rattle.std.specs.Prelude.{◌<◌, ⊤, ◌⊎◌, List, All, AllPairs}
use Rattle.problem_core.specs.Layout.{Row}
use Rattle.compile_parts.specs.Meaning.{MetricList}
use Rattle.frac_core.specs.declared.memory.Stop.{Stop}
use Rattle.frac_core.specs.declared.memory.Stop.TheVariants as stop
use Rattle.compile_parts.specs.declared.stops.LargeConstant.{LargeConstant}
use Rattle.layout_solver.specs.declared.engine.Change.{Change}
use Rattle.layout_solver.specs.Shifts.{AreKept, CanShift, shifted}
use Rattle.held_items.specs.Items.{AreRows, IsSmallItem}
use Rattle.scenes.specs.Scene.{Scene, problem_of}
use Rattle.held_items.specs.Moving.{AreNear}

-- by these changes the scene's rows become those for the metrics, and no constant moves too far
pub record AreChangesFor (scene : Scene) (metrics : MetricList) (to : List Change) : Type 0 where
  pub rows : AreRows metrics scene.held (shifted to scene.rows)
  pub near : AreNear scene.rows (shifted to scene.rows)
  pub can : CanShift (problem_of scene) to
  pub rising : AllPairs (λ a b. a.row < b.row) to
  pub kept : AreKept to

-- no such changes exist: a constant isn't small after some term, or moves too far
abbrev pub MayLackChanges : Scene → MetricList → Stop LargeConstant → Type 0
MayLackChanges scene metrics (stop.Refused cause) =
    (All (IsSmallItem metrics) scene.held → ⊥)
    ⊎ ((rows : List Row) × AreRows metrics scene.held rows × (AreNear scene.rows rows → ⊥))
MayLackChanges scene metrics stop.OutOfMemory = ⊤
