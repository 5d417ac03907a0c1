-- What the limits of a session keep, and the session of its parts.
use Rattle.std.specs.Prelude.{◌≡◌, ℕ, ◌<◌, ◌≤◌, All}
use Rattle.scenes.specs.Scene.{History, Scene}
use Rattle.session_undo.specs.State.{Limits, State}
use Rattle.held_items.specs.declared.limits.TheConstants.{EARLIER, MOST_ROWS}
use Rattle.view_tree.specs.declared.limits.TheConstants.{VIEW_LIMIT}
use Rattle.script_text.specs.declared.words.Version.{Version}
use Rattle.session_undo.specs.declared.limits.Limits as declared_limits
use Rattle.session_undo.specs.declared.limits.TheConstants.{MOST_LINES}

-- what the limits of the code stand for
abbrev pub limits_of : declared_limits.Limits → Limits
limits_of l = record { views = l.views; lines = l.lines; rows = l.rows; undo = l.undo }

-- a session may have these limits: the window is a view and has four rows
pub record AreWithin (limits : Limits) : Type 0 where
  pub window : 0 < limits.views
  pub views : limits.views ≤ VIEW_LIMIT
  pub lines : limits.lines ≤ MOST_LINES
  pub window_rows : 4 ≤ limits.rows
  pub rows : limits.rows ≤ MOST_ROWS
  pub undo : limits.undo ≤ EARLIER

-- they are those of the trees of the scene and of each before it, and of how many are kept
pub record AreLimitsOf (history : History) (limits : Limits) : Type 0 where
  pub scene : history.scene.tree.most ≡ limits.views
  pub earlier : All (λ (s : Scene). s.tree.most ≡ limits.views) history.earlier
  pub undo : history.undo ≡ limits.undo

-- the session of this version, this scene and those before it
abbrev pub session_at : History → ℕ → declared_limits.Limits → Version → State
session_at history budget limits v = record {
  scene = history.scene;
  earlier = history.earlier;
  budget = budget;
  limits = limits_of limits;
  version = v;
}
