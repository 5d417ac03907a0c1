-- What a session holds: a scene, those before it, and how much there may be.
use Rattle.std.specs.Prelude.{◌≡◌, ℕ, List, [], All}
use Rattle.problem_core.specs.declared.parts.Mark.{Mark}
use Rattle.view_tree.specs.declared.limits.TheConstants.{VIEW_LIMIT}
use Rattle.held_items.specs.declared.limits.TheConstants.{EARLIER, MOST_ROWS}
use Rattle.scenes.specs.declared.limits.TheConstants.{FIRST_BUDGET}
use Rattle.session_undo.specs.declared.limits.TheConstants.{MOST_LINES}
use Rattle.scenes.specs.Scene.{IsBestScene, IsFirstCorner, first_scene_of, Scene}
use Rattle.script_text.specs.declared.words.Version.{Version}
use Rattle.script_text.specs.declared.words.Version.TheVariants as version

-- how many views, lines of groups and rows there may be, and how many earlier scenes
pub record Limits : Type 0 where
  pub views : ℕ
  pub lines : ℕ
  pub rows : ℕ
  pub undo : ℕ

-- the scene, those before it, the latest first, how many exchanges each run may make, the limits, and the
-- version of the script
pub record State : Type 0 where
  pub scene : Scene
  pub earlier : List Scene
  pub budget : ℕ
  pub limits : Limits
  pub version : Version

-- the values of the scene, and of all that are kept, are the best
abbrev pub IsBestState : State → Type 0
IsBestState s = IsBestScene s.scene × All IsBestScene s.earlier

-- ---- a new session

-- the limits of a new session
abbrev pub first_limits : Limits
first_limits = record { views = VIEW_LIMIT; lines = MOST_LINES; rows = MOST_ROWS; undo = EARLIER }

-- a new session of this version with these limits, with these marks inside
abbrev pub first_state_of : Limits → Version → List Mark → State
first_state_of limits v corner = record {
  scene = first_scene_of limits.views corner;
  earlier = [];
  budget = FIRST_BUDGET;
  limits = limits;
  version = v;
}

-- the same with the limits of a new session
abbrev pub first_state : Version → List Mark → State
first_state v corner = first_state_of first_limits v corner

-- the session is a new one of this version with these limits, and its values stand at its corner, which is an
-- end
abbrev pub IsFirstWith : Limits → Version → State → Type 0
IsFirstWith limits v s = IsFirstCorner s.scene.corner × (s ≡ first_state_of limits v s.scene.corner)

-- the same with the limits of a new session
abbrev pub IsFirstOf : Version → State → Type 0
IsFirstOf v s = IsFirstWith first_limits v s

-- the session is a new one of version 1
abbrev pub IsFirst : State → Type 0
IsFirst s = IsFirstOf version.One s
