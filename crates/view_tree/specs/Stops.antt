-- When a new view is refused.
use Rattle.std.specs.Prelude.{◌≡◌, ◌<◌, ◌≤◌, ◌||◌, ℕ, Bool, true, false, List, None, IsSome, length}
use Rattle.std.specs.Prelude.{nat_le}
use Rattle.name_tables.specs.declared.stops.LimitWord.{LimitWord}
use Rattle.name_tables.specs.declared.stops.LimitWord.TheVariants.{Name, Views, Depth}
use Rattle.name_tables.specs.declared.stops.TheConstants.{NAME_LIMIT}
use Rattle.view_tree.specs.Views.{ViewTree, IsAtDepth, view_named, view_of}
use Rattle.view_tree.specs.declared.limits.TheConstants.{DEPTH_LIMIT, ID_LIMIT}
use Rattle.view_tree.specs.declared.stops.ViewStop.{ViewStop}
use Rattle.view_tree.specs.declared.stops.ViewStop.TheVariants.{Unknown, Taken, Limit, OutOfMemory}

-- there are as many views as there may be, or no number is left
abbrev pub is_full : ViewTree → Bool
is_full t = nat_le t.most (length t.views) || nat_le ID_LIMIT t.next

-- a view of this name may be added below this parent
pub record IsNewView (t : ViewTree) (name : List ℕ) (parent : ℕ) : Type 0 where
  pub live : IsSome (view_of t.views parent)
  pub free : view_named t.views name ≡ None
  pub short : length name ≤ NAME_LIMIT
  pub room : is_full t ≡ false
  pub high : (depth : ℕ) × IsAtDepth t.views parent depth × (depth < DEPTH_LIMIT)

-- the first limit that the view would pass
abbrev pub PassesLimit : ViewTree → List ℕ → ℕ → LimitWord → Type 0
PassesLimit t name parent Name = NAME_LIMIT < length name
PassesLimit t name parent Views = (length name ≤ NAME_LIMIT) × (is_full t ≡ true)
PassesLimit t name parent Depth = (length name ≤ NAME_LIMIT) × (is_full t ≡ false)
    × ((depth : ℕ) × IsAtDepth t.views parent depth × (DEPTH_LIMIT ≤ depth))
PassesLimit t name parent _ = ⊥

-- when a view that is to be added may be refused
abbrev pub MayStop : ViewTree → List ℕ → ℕ → ViewStop → Type 0
MayStop t name parent Unknown = view_of t.views parent ≡ None
MayStop t name parent Taken = IsSome (view_of t.views parent) × IsSome (view_named t.views name)
MayStop t name parent (Limit word) = IsSome (view_of t.views parent) × (view_named t.views name ≡ None)
    × PassesLimit t name parent word
MayStop t name parent OutOfMemory = IsNewView t name parent
