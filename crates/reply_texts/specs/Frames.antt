-- The text of frames.
use Rattle.std.specs.Prelude.{ℕ, List, [], ◌∷◌, ◌++◌, codes}
use Rattle.span_text.specs.Bytes.{newline, space}
use Rattle.frac_core.specs.Fraction.{Fraction}
use Rattle.frac_core.specs.Text.{fraction_text}
use Rattle.problem_core.specs.Gaps.{value_of}
use Rattle.view_tree.specs.Attributes.{left_of, top_of, width_of, height_of}
use Rattle.view_tree.specs.Views.{LiveView}

-- a space and the fraction
unfoldable pub value_text : Fraction → List ℕ
value_text f = space ∷ fraction_text f

-- a word, the name of a view, and its left, top, width and height
unfoldable pub placed_line : List ℕ → List ℕ → Fraction → Fraction → Fraction → Fraction → List ℕ
placed_line word name left top width height = word ++ (name
    ++ (value_text left ++ (value_text top ++ (value_text width ++ (value_text height ++ newline ∷ [])))))

-- the line of a view at these values
abbrev pub placed_text : List ℕ → List (ℕ × Fraction) → LiveView → List ℕ
placed_text word values v = placed_line word v.name (value_of values (left_of v.id))
    (value_of values (top_of v.id)) (value_of values (width_of v.id)) (value_of values (height_of v.id))

-- `frame`, the name of a view, and its left, top, width and height
abbrev pub frame_line : List ℕ → Fraction → Fraction → Fraction → Fraction → List ℕ
frame_line name left top width height = placed_line (codes "frame ") name left top width height

-- the line of a view's frame at these values
abbrev pub frame_text : List (ℕ × Fraction) → LiveView → List ℕ
frame_text values v = placed_text (codes "frame ") values v
