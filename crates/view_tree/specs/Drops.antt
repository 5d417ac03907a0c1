-- Views that leave.
use Rattle.std.specs.Prelude.{◌≡◌, ◌||◌, ℕ, Bool, false, List, All, filter, map}
use Rattle.std.specs.Prelude.{nat_eq, not}
use Rattle.std.specs.List.{list_any}
use Rattle.std.specs.Option.{option_map_or}
use Rattle.view_tree.specs.Views.{LiveView, ViewTree}

-- the number is one of these
abbrev pub is_among : List ℕ → ℕ → Bool
is_among numbers id = list_any (λ n. nat_eq n id) numbers

-- the view is the root, or its parent is one of these
abbrev pub goes : ℕ → List ℕ → LiveView → Bool
goes root gone v = nat_eq v.id root || option_map_or (is_among gone) v.parent false

-- of the views those with these numbers go, in order of creation: the root, and each whose parent goes
pub record AreGoing (views : List LiveView) (root : ℕ) (gone : List ℕ) : Type 0 where
  pub each : All (λ v. is_among gone v.id ≡ goes root gone v) views
  pub order : gone ≡ map (λ v. v.id) (filter (λ v. is_among gone v.id) views)

-- the tree without these views: the others are as they were, and so is the number that the next view takes
abbrev pub without : ViewTree → List ℕ → ViewTree
without t gone = record t { views = filter (λ v. not (is_among gone v.id)) t.views }
