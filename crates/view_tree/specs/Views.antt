-- The tree of views.
use Rattle.std.specs.Prelude.{◌≡◌, ◌<◌, ◌≤◌, ◌+◌, ℕ, List, [], ◌∷◌, ◌++◌, Option, None, Some, All}
use Rattle.std.specs.Prelude.{AllPairs, codes, find, length, map, nat_eq, slice_get}
use Rattle.std.specs.Option.{option_map}
use Rattle.std.specs.Str.{bytes_eq}
use Rattle.name_tables.specs.Names.{AreDistinct}
use Rattle.name_tables.specs.declared.stops.TheConstants.{NAME_LIMIT}
use Rattle.view_tree.specs.declared.limits.TheConstants.{DEPTH_LIMIT, ID_LIMIT, VIEW_LIMIT}

-- a live view: its number, its name, and its parent's number, which the window alone lacks
pub record LiveView : Type 0 where
  pub id : ℕ
  pub name : List ℕ
  pub parent : Option ℕ

-- the live views in order of creation, the number that the next view takes, and how many may be live
pub record ViewTree : Type 0 where
  pub views : List LiveView
  pub next : ℕ
  pub most : ℕ

-- the window, whose number is 0 and which has no parent
abbrev pub window : LiveView
window = record { id = 0; name = codes "window"; parent = None }

-- the window alone, where so many views may be live
abbrev pub first_tree : ℕ → ViewTree
first_tree most = record { views = window ∷ []; next = 1; most = most }

-- the live view with this number
abbrev pub view_of : List LiveView → ℕ → Option LiveView
view_of views id = find (λ v. nat_eq v.id id) views

-- the live view with this name
abbrev pub view_named : List LiveView → List ℕ → Option LiveView
view_named views name = find (λ v. bytes_eq name v.name) views

-- the view is live, and this is its parent
abbrev pub HasParent : List LiveView → ℕ → Option ℕ → Type 0
HasParent views id parent = option_map (λ v. v.parent) (view_of views id) ≡ Some parent

-- these are the views above this one, from its parent up to the window
abbrev pub AreAbove : List LiveView → ℕ → List ℕ → Type 0
AreAbove views id [] = HasParent views id None
AreAbove views id (parent ∷ above) = HasParent views id (Some parent) × AreAbove views parent above

-- the depth of a live view: the window's is 1, and each other view's one more than its parent's
pub record IsAtDepth (views : List LiveView) (id depth : ℕ) : Type 0 where
  pub above : List ℕ
  pub chain : AreAbove views id above
  pub count : length above + 1 ≡ depth

-- what holds of every tree
pub record IsTree (t : ViewTree) : Type 0 where
  pub root : slice_get t.views 0 ≡ Some window
  pub few : length t.views ≤ VIEW_LIMIT
  pub within : length t.views ≤ t.most
  pub most : t.most ≤ VIEW_LIMIT
  pub ids : t.next ≤ ID_LIMIT
  pub below : All (λ v. v.id < t.next) t.views
  pub rising : AllPairs (λ v w. v.id < w.id) t.views
  pub short : All (λ v. length v.name ≤ NAME_LIMIT) t.views
  pub names : AreDistinct (map (λ v. v.name) t.views)
  pub depths : All (λ v. (depth : ℕ) × IsAtDepth t.views v.id depth × (depth ≤ DEPTH_LIMIT)) t.views
  pub older : All (λ v. (parent : ℕ) → v.parent ≡ Some parent → parent < v.id) t.views

-- the tree with one view more
abbrev pub with_view : ViewTree → List ℕ → ℕ → ViewTree
with_view t name parent = record t {
  views = t.views
      ++ record { id = t.next; name = name; parent = Some parent } ∷ [];
  next = t.next + 1;
}
