-- When a tree of views from JSON is refused.
use Rattle.std.specs.Prelude.{◌≡◌, ◌<◌, ◌≤◌, ◌+◌, ◌&&◌, ◌||◌, ℕ, Bool, true, false, List, [], ◌∷◌, ◌++◌}
use Rattle.std.specs.Prelude.{None, Some, IsSome, All, is_some, length, nat_le}
use Rattle.std.specs.List.{list_any}
use Rattle.std.specs.Option.{option_map}
use Rattle.std.specs.Str.{bytes_eq}
use Rattle.frac_core.specs.Fraction.{Fraction}
use Rattle.name_tables.specs.Names.{value_of}
use Rattle.name_tables.specs.declared.stops.LimitWord.{LimitWord}
use Rattle.name_tables.specs.declared.stops.LimitWord.TheVariants.{Name, Views, Depth}
use Rattle.name_tables.specs.declared.stops.TheConstants.{NAME_LIMIT}
use Rattle.serde_json.specs.Data.{Data}
use Rattle.view_tree.specs.JsonTrees.{Branch, IsJson, IsTreeText, JsonTree}
use Rattle.view_tree.specs.JsonTrees.{height, names, size, tree_of, with_branch}
use Rattle.view_tree.specs.Plans.{IsPlanOf, PlanGoesIn, names_of_plan}
use Rattle.view_tree.specs.Views.{ViewTree, IsAtDepth, IsTree, view_named}
use Rattle.view_tree.specs.declared.limits.TheConstants.{DEPTH_LIMIT, ID_LIMIT}
use Rattle.view_tree.specs.declared.plan.Plan.{Plan}
use Rattle.view_tree.specs.declared.stops.TreeStop.{TreeStop}
use Rattle.view_tree.specs.declared.stops.TreeStop.TheVariants.{Syntax, Shape, Unknown, Taken, Limit}
use Rattle.view_tree.specs.declared.stops.TreeStop.TheVariants.{OutOfMemory}

-- a live view has the name, or a metric, or a view before it in the new tree
abbrev pub is_held : ViewTree → List (List ℕ × Fraction) → List (List ℕ) → List ℕ → Bool
is_held t metrics before name = is_some (view_named t.views name) || (is_some (value_of metrics name)
    || list_any (bytes_eq name) before)

-- none of the names is held, each after those before it
abbrev pub AreFree : ViewTree → List (List ℕ × Fraction) → List (List ℕ) → List (List ℕ) → Type 0
AreFree t metrics before [] = Unit {0}
AreFree t metrics before (name ∷ later) = (is_held t metrics before name ≡ false)
    × AreFree t metrics (before ++ name ∷ []) later

-- it is the first of the names that is held
pub record IsFirstHeld (t : ViewTree) (metrics : List (List ℕ × Fraction)) (all : List (List ℕ))
    (name : List ℕ) : Type 0 where
  pub before : List (List ℕ)
  pub later : List (List ℕ)
  pub split : all ≡ before ++ name ∷ later
  pub free : AreFree t metrics [] before
  pub held : is_held t metrics before name ≡ true

-- no name is longer than a view's may be
abbrev pub AreShort : List (List ℕ) → Type 0
AreShort all = All (λ name. length name ≤ NAME_LIMIT) all

-- so many views more may be live, and there are numbers for them
abbrev pub has_room : ViewTree → ℕ → Bool
has_room t count = nat_le (length t.views + count) t.most && nat_le (t.next + count) ID_LIMIT

-- below this parent the branch passes no limit
pub record IsWithin (t : ViewTree) (parent : ℕ) (b : Branch) : Type 0 where
  pub short : AreShort (names b)
  pub room : has_room t (size b) ≡ true
  pub high : (depth : ℕ) × IsAtDepth t.views parent depth × (depth + height b ≤ DEPTH_LIMIT)

-- the first limit that the branch would pass
abbrev pub PassesTreeLimit : ViewTree → ℕ → Branch → LimitWord → Type 0
PassesTreeLimit t parent b Name = AreShort (names b) → ⊥
PassesTreeLimit t parent b Views = AreShort (names b) × (has_room t (size b) ≡ false)
PassesTreeLimit t parent b Depth = AreShort (names b) × (has_room t (size b) ≡ true)
    × ((depth : ℕ) × IsAtDepth t.views parent depth × (DEPTH_LIMIT < depth + height b))
PassesTreeLimit t parent b _ = ⊥

-- the number of the view that the tree goes in
abbrev pub GoesIn : ViewTree → JsonTree → ℕ → Type 0
GoesIn t tree parent = option_map (λ v. v.id) (view_named t.views tree.place) ≡ Some parent

-- the text's tree was added: these are so many views
pub record IsGrown (old : ViewTree) (metrics : List (List ℕ × Fraction)) (text : List ℕ) (new : ViewTree)
    (count : ℕ) : Type 0 where
  pub tree : JsonTree
  pub parent : ℕ
  pub read : IsTreeText text tree
  pub goes : GoesIn old tree parent
  pub free : AreFree old metrics [] (names tree.branch)
  pub within : IsWithin old parent tree.branch
  pub grown : new ≡ with_branch old parent tree.branch
  pub counted : count ≡ size tree.branch

-- when a text's tree may be refused
abbrev pub MayStayOut : ViewTree → List (List ℕ × Fraction) → List ℕ → TreeStop → Type 0
MayStayOut t metrics text Syntax = (d : Data) → IsJson text d → ⊥
MayStayOut t metrics text Shape = (d : Data) × IsJson text d × (tree_of d ≡ None)
MayStayOut t metrics text (Unknown name) = (tree : JsonTree) × IsTreeText text tree
    × (view_named t.views tree.place ≡ None) × (name ≡ tree.place)
MayStayOut t metrics text (Taken name) = (tree : JsonTree) × IsTreeText text tree
    × IsSome (view_named t.views tree.place)
    × IsFirstHeld t metrics (names tree.branch) name
MayStayOut t metrics text (Limit word) = (tree : JsonTree) × IsTreeText text tree
    × ((parent : ℕ) × GoesIn t tree parent × AreFree t metrics [] (names tree.branch)
    × PassesTreeLimit t parent tree.branch word)
-- want of memory says nothing of the text
MayStayOut t metrics text OutOfMemory = Unit {0}

-- a text whose tree the plan is may be refused
abbrev pub MayLeaveOut : ViewTree → List (List ℕ × Fraction) → Plan → TreeStop → Type 0
MayLeaveOut t metrics plan stop = (text : List ℕ) (tree : JsonTree) → IsTreeText text tree
    → IsPlanOf plan tree → MayStayOut t metrics text stop

-- the views of the plan may be added below this view
pub record IsAddable (t : ViewTree) (metrics : List (List ℕ × Fraction)) (plan : Plan) : Type 0 where
  pub parent : ℕ
  pub goes : PlanGoesIn t plan parent
  pub free : AreFree t metrics [] (names_of_plan plan.views.items)
  pub whole : IsTree t
  pub within : (tree : JsonTree) → IsPlanOf plan tree → IsWithin t parent tree.branch
