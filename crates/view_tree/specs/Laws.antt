-- What follows from the definitions of views and of trees.
use Rattle.std.specs.Prelude.{◌≡◌, ℕ, List, map}
use Rattle.std.specs.List.{range_with_len}
use Rattle.view_tree.specs.JsonTrees.{Branch, size, views_of}
use Rattle.view_tree.specs.Views.{IsAtDepth, LiveView}

-- a view has at most one depth
abbrev pub DepthIsUnique : Type 0
DepthIsUnique = (views : List LiveView) → (id one other : ℕ) → IsAtDepth views id one
    → IsAtDepth views id other → one ≡ other

-- the views of a branch are so many as its size, and their numbers go up one by one from the next one
abbrev pub NumbersRise : Type 0
NumbersRise = (next parent : ℕ) (b : Branch)
    → map (λ v. v.id) (views_of next parent b) ≡ range_with_len next (size b)
