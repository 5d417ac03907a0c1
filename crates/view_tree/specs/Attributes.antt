-- The numbers of a view's attributes.
use Rattle.std.specs.Prelude.{ℕ, ◌+◌, ◌*◌}
use Rattle.view_tree.specs.declared.attributes.Attributes.{Attributes}

-- the number of the left of the view of this number
abbrev pub left_of : ℕ → ℕ
left_of view = 4 * view + 1

-- the number of its top
abbrev pub top_of : ℕ → ℕ
top_of view = 4 * view + 2

-- the number of its width
abbrev pub width_of : ℕ → ℕ
width_of view = 4 * view + 3

-- the number of its height
abbrev pub height_of : ℕ → ℕ
height_of view = 4 * view + 4

-- the numbers of all four attributes of the view of this number
abbrev pub attributes_of : ℕ → Attributes
attributes_of view = record {
  left = left_of view;
  top = top_of view;
  width = width_of view;
  height = height_of view;
}
