-- Trees of views as JSON texts have them.
use Rattle.std.specs.Prelude.{◌≡◌, ◌+◌, ◌&&◌, ◌||◌, ℕ, suc, max, Bool, true, false, List, [], ◌∷◌, ◌++◌}
use Rattle.std.specs.Prelude.{Option, None, Some, IsUtf8, codes, if◌then◌else◌, option_map, option_and_then}
use Rattle.std.specs.Prelude.{unwrap_or}
use Rattle.std.specs.List.{list_all}
use Rattle.std.specs.Str.{bytes_eq}
use Rattle.serde_json.specs.Data.{Data, null, boolean, number, string, array, object, Items, no_items, item}
use Rattle.serde_json.specs.Data.{Members, no_members, member}
use Rattle.serde_json.specs.Find.{get, as_str}
use Rattle.serde_json.specs.Read.{read}
use Rattle.span_text.specs.Classes.{is_letter, is_word}
use Rattle.view_tree.specs.Views.{LiveView, ViewTree}

-- ---- a view with those in it

-- a branch is a view's name, and the branches of the views in it, in order
mutual
  pub data Branch : Type 0 where
    branch : List ℕ → Branches → Branch

  pub data Branches : Type 0 where
    no_branches : Branches
    more : Branch → Branches → Branches

-- how many views there are
abbrev mutual
  pub size : Branch → ℕ
  size (branch name inner) = suc (size_in inner)

  pub size_in : Branches → ℕ
  size_in no_branches = 0
  size_in (more b bs) = size b + size_in bs

-- how many views there are on the longest way down
abbrev mutual
  pub height : Branch → ℕ
  height (branch name inner) = suc (height_in inner)

  pub height_in : Branches → ℕ
  height_in no_branches = 0
  height_in (more b bs) = max (height b) (height_in bs)

-- the names in preorder
abbrev mutual
  pub names : Branch → List (List ℕ)
  names (branch name inner) = name ∷ names_in inner

  pub names_in : Branches → List (List ℕ)
  names_in no_branches = []
  names_in (more b bs) = names b ++ names_in bs

-- the views in preorder: their numbers go up one by one from the first one's, which stands below this parent
abbrev mutual
  pub views_of : ℕ → ℕ → Branch → List LiveView
  views_of next parent (branch name inner) = record { id = next; name = name; parent = Some parent }
      ∷ views_in (next + 1) next inner

  pub views_in : ℕ → ℕ → Branches → List LiveView
  views_in next parent no_branches = []
  views_in next parent (more b bs) = views_of next parent b ++ views_in (next + size b) parent bs

-- the tree with these views more
abbrev pub with_branch : ViewTree → ℕ → Branch → ViewTree
with_branch t parent b = record t { views = t.views ++ views_of t.next parent b; next = t.next + size b }

-- ---- the branch of a JSON value

-- a letter or _, and then letters, digits and _
abbrev pub is_name : List ℕ → Bool
is_name [] = false
is_name (b ∷ bs) = is_letter b && list_all is_word bs

-- the bytes, if they are a name
abbrev pub named : List ℕ → Option (List ℕ)
named s = if is_name s then Some s else None

-- the name under a key: a string that is a name
abbrev pub name_under : List ℕ → Data → Option (List ℕ)
name_under key d = option_and_then (λ v. option_and_then named (as_str v)) (get key d)

-- whether an object may have a member of this key
abbrev pub is_member : Bool → List ℕ → Bool
is_member is_outermost key = bytes_eq key (codes "name") || (bytes_eq key (codes "children")
    || (is_outermost && bytes_eq key (codes "in")))

-- whether an object may have each of these members
abbrev pub are_members : Bool → Members → Bool
are_members is_outermost no_members = true
are_members is_outermost (member k d ms) = is_member is_outermost k && are_members is_outermost ms

-- a value of another shape has no branch
abbrev mutual
  pub branch_of : Bool → Data → Option Branch
  branch_of is_outermost null = None
  branch_of is_outermost (boolean b) = None
  branch_of is_outermost (number n) = None
  branch_of is_outermost (string s) = None
  branch_of is_outermost (array ds) = None
  branch_of is_outermost (object ms) = if are_members is_outermost ms
      then option_and_then (λ name. option_map (branch name) (children_of ms))
      (name_under (codes "name") (object ms))
      else None

  -- what is under the key children: an array of objects, or nothing
  pub children_of : Members → Option Branches
  children_of no_members = Some no_branches
  children_of (member k d ms) = if bytes_eq (codes "children") k then elements_of d else children_of ms

  -- the branches of the objects in an array, in order; a value of another shape has none
  pub elements_of : Data → Option Branches
  elements_of null = None
  elements_of (boolean b) = None
  elements_of (number n) = None
  elements_of (string s) = None
  elements_of (array ds) = branches_of ds
  elements_of (object ms) = None

  -- the branch of each value, in order, if each has one
  pub branches_of : Items → Option Branches
  branches_of no_items = Some no_branches
  branches_of (item d ds) = option_and_then (λ b. option_map (more b) (branches_of ds)) (branch_of false d)

-- ---- the tree of a JSON text

-- the name of the view that the tree goes in, and the branch that it is
pub record JsonTree : Type 0 where
  pub place : List ℕ
  pub branch : Branch

-- the name under the key in, or the window's
abbrev pub place_of : Data → Option (List ℕ)
place_of d = unwrap_or (option_map (λ v. option_and_then named (as_str v)) (get (codes "in") d))
    (Some (codes "window"))

-- a value of another shape has no tree
abbrev pub tree_of : Data → Option JsonTree
tree_of d = option_and_then (λ place. option_map (λ b. record { place = place; branch = b })
    (branch_of true d)) (place_of d)

-- the value of a JSON text
pub record IsJson (text : List ℕ) (d : Data) : Type 0 where
  pub utf8 : IsUtf8 text
  pub value : read text ≡ Some d

-- the text is JSON and has the shape of this tree
pub record IsTreeText (text : List ℕ) (tree : JsonTree) : Type 0 where
  pub value : Data
  pub json : IsJson text value
  pub shape : tree_of value ≡ Some tree
