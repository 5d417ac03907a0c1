-- What the tree keeps under a name.
use Rattle.std.specs.Prelude.{ℕ, List, All, map}
use Rattle.std.specs.Option.{option_map}
use Rattle.view_tree.specs.Views.{LiveView, ViewTree, IsAtDepth, IsTree}
use Rattle.view_tree.specs.declared.tree.Node.{Node}

-- the live view of an entry: a name, and what is kept under it
abbrev pub live_view : List ℕ × Node → LiveView
live_view e = record { id = e.1.id.0; name = e.0; parent = option_map (λ p. p.0) e.1.parent }

-- the tree that these entries keep, where this number is the next view's, and so many may be live
abbrev pub kept_tree : List (List ℕ × Node) → ℕ → ℕ → ViewTree
kept_tree entries next most = record { views = map live_view entries; next = next; most = most }

-- what holds of the kept entries: they make a tree, and each has the depth of its view
pub record AreKept (entries : List (List ℕ × Node)) (next most : ℕ) : Type 0 where
  pub tree : IsTree (kept_tree entries next most)
  pub depths : All (λ e. IsAtDepth (map live_view entries) e.1.id.0 e.1.depth) entries
