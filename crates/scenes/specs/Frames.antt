-- Frames of views.
use Rattle.std.specs.Prelude.{◌≡◌, ℕ, List, [], ◌∷◌, Some, slice_get}
use Rattle.frac_core.specs.Fraction.{Fraction}
use Rattle.problem_core.specs.Gaps.{value_of}
use Rattle.view_tree.specs.Attributes.{left_of, top_of, width_of, height_of}
use Rattle.view_tree.specs.Views.{LiveView, view_of}
use Rattle.scenes.specs.Scene.{Scene}

-- left, top, width and height of the view of this number, in window coordinates
abbrev pub frame_of : List (ℕ × Fraction) → ℕ → List Fraction
frame_of values id =
    value_of values (left_of id) ∷ value_of values (top_of id) ∷ value_of values (width_of id)
    ∷ value_of values (height_of id) ∷ []

-- the frame of the view at this place, in order of creation
abbrev pub IsFrameAt : Scene → ℕ → List Fraction → Type 0
IsFrameAt scene place frame =
    (v : LiveView) × (slice_get scene.tree.views place ≡ Some v) × (frame ≡ frame_of scene.values v.id)

-- the frame of the live view of this number
abbrev pub IsFrameOf : Scene → ℕ → List Fraction → Type 0
IsFrameOf scene id frame =
    (v : LiveView) × (view_of scene.tree.views id ≡ Some v) × (frame ≡ frame_of scene.values v.id)
